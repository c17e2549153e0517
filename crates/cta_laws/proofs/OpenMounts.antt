-- Mounts of older entries, and how a legal history is cut.
use Rattle.std.proofs.Common.{◌≡◌, ℕ, ◌+◌, ◌≤◌, inl, inr, List, [], ◌∷◌, ◌++◌, Bool, true, false, not, refl, arith, length, add-one}
use Rattle.std.specs.Prelude.{if◌then◌else◌, ◌==◌, filter}
use Rattle.std.proofs.lemmas.Bool.{eqb-true, eq-eqb}
use Rattle.cta_site.specs.declared.site.Site.{Site}
use Rattle.cta_model.specs.declared.entries.Entry.{Entry}
use Rattle.cta_model.specs.declared.asks.Ask.{Ask}
use Rattle.cta_model.specs.declared.asks.Ask.TheVariants as ask
use Rattle.cta_model.specs.declared.answers.Answer.{Answer}
use Rattle.cta_model.specs.declared.answers.Answer.TheVariants as answer
use Rattle.cta_model.specs.History.{History, has_number}
use Rattle.cta_model.specs.Mounts.{mount_of, mount_in, open_mounts, open_after, is_open}
use Rattle.cta_model.specs.Legal.{IsLegal}
use Rattle.cta_laws.proofs.Tests.{bool_cases, not_next}

-- what a legal history was before is legal
pub legal_older : (site : Site) (newer h : History) → IsLegal site (newer ++ h) → IsLegal site h
legal_older site [] h legal = legal
legal_older site (e ∷ newer) h legal = legal_older site newer h legal.0

-- each number is at most this
abbrev pub AllUpTo : ℕ → List ℕ → Type 0
AllUpTo n [] = Unit {0}
AllUpTo n (m ∷ ms) = (m ≤ n) × AllUpTo n ms

pub up_to_more : (n k : ℕ) (ms : List ℕ) → n ≤ k → AllUpTo n ms → AllUpTo k ms
up_to_more n k [] low all = tt
up_to_more n k (m ∷ ms) low all = (omega (arith, all.0), up_to_more n k ms low all.1)

pub up_to_filter : (n : ℕ) (test : ℕ → Bool) (ms : List ℕ) → AllUpTo n ms → AllUpTo n (filter test ms)
up_to_filter n test [] all = tt
up_to_filter n test (m ∷ ms) all = elim (test m) as (λ b. AllUpTo n (if b then m ∷ filter test ms else filter test ms)) [ true ↦ (all.0, up_to_filter n test ms all.1) | false ↦ up_to_filter n test ms all.1 ]

pub open_up_to : (k : Ask) (a : Answer) (n : ℕ) (ms : List ℕ) → AllUpTo n ms → AllUpTo (n + 1) (open_after k a (n + 1) ms)
open_up_to (ask.Next d) (answer.Mounted m way v) n ms all = (omega arith, up_to_more n (n + 1) ms (omega arith) all)
open_up_to (ask.End m f) a n ms all = up_to_filter (n + 1) (λ k. not (k == m)) ms (up_to_more n (n + 1) ms (omega arith) all)
open_up_to _ a n ms all = up_to_more n (n + 1) ms (omega arith) all

pub opens_up_to : (h : History) → AllUpTo (length h) (open_mounts h)
opens_up_to [] = tt
opens_up_to (e ∷ h) = rw (← add-one) (open_up_to e.ask e.answer (length h) (open_mounts h) (opens_up_to h))

-- a mount of an older entry is the same after one more
pub mount_older : (e : Entry) (h : History) (m : ℕ) → m ≤ length h → mount_of (e ∷ h) m ≡ mount_of h m
mount_older e h m low = rw (not_next m (length h) low) refl

pub mount_newest : (e : Entry) (h : History) → mount_of (e ∷ h) (length h + 1) ≡ mount_in e.ask e.answer
mount_newest e h = rw (eq-eqb (length h + 1) (length h + 1) refl) refl

pub number_up_to : (n m : ℕ) (ms : List ℕ) → AllUpTo n ms → has_number m ms ≡ true → m ≤ n
number_up_to n m [] all e = absurd (cc)
number_up_to n m (k ∷ ms) all e =
    elim (bool_cases (m == k)) [
      | inl hit ↦ (let same : m ≡ k = eqb-true m k hit in omega (arith, all.0))
      | inr miss ↦ number_up_to n m ms all.1 (rw miss at e)
    ]

pub open_older : (h : History) (m : ℕ) → is_open h m ≡ true → m ≤ length h
open_older h m e = number_up_to (length h) m (open_mounts h) (opens_up_to h) e
