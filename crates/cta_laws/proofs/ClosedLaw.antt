-- After its End a mount is not open, and claims nothing.
use Rattle.std.proofs.Common.{◌≡◌, ℕ, ◌+◌, ◌≤◌, inl, inr, List, [], ◌∷◌, ◌++◌, Bool, true, false, ◌&&◌, not, refl, ◌∙◌, ap, subst, arith, length}
use Rattle.std.specs.Prelude.{Option, if◌then◌else◌, ◌==◌}
use Rattle.std.proofs.lemmas.Bool.{and_parts, eqb-true}
use Rattle.cta_site.specs.declared.site.Site.{Site}
use Rattle.cta_model.specs.declared.entries.Entry.{Entry}
use Rattle.cta_model.specs.declared.asks.Ask.{Ask}
use Rattle.cta_model.specs.declared.asks.Ask.TheVariants as ask
use Rattle.cta_model.specs.declared.asks.Fault.{Fault}
use Rattle.cta_model.specs.declared.answers.Answer.{Answer}
use Rattle.cta_model.specs.declared.answers.Answer.TheVariants as answer
use Rattle.cta_model.specs.declared.answers.Refusal.TheVariants as refusal
use Rattle.cta_model.specs.declared.asks.Item.{Item}
use Rattle.cta_model.specs.declared.asks.Job.{Job}
use Rattle.cta_model.specs.History.{History, is_empty}
use Rattle.cta_model.specs.Mounts.{is_open, open_mounts, claimed_items, claimed_after, without_jobs, item_jobs}
use Rattle.cta_model.specs.Answers.{refuse, answer_of, is_accepted}
use Rattle.cta_model.specs.Legal.{IsLegal, IsNext}
use Rattle.cta_laws.specs.Mounts.{ClaimsNothingAfterEnd}
use Rattle.cta_laws.proofs.Tests.{bool_cases, not_next}
use Rattle.cta_laws.proofs.OpenMounts.{legal_older, open_older}
use Rattle.cta_laws.proofs.Claims.{claim_is_open}
use Rattle.cta_laws.proofs.FseqLaw.{was_open}
use Rattle.cta_laws.proofs.LengthLaw.{filtered_out}

-- a mount of an older entry that is not open and claims nothing
pub IsClosed : History → ℕ → Type 0
IsClosed h m = (m ≤ length h) × (is_open h m ≡ false) × (claimed_items h m ≡ [])

pub not_open : (h : History) (e : Entry) (m : ℕ) → m ≤ length h → is_open h m ≡ false → is_open (e ∷ h) m ≡ false
not_open h e m low d =
    elim (bool_cases (is_open (e ∷ h) m))
    [ inl op ↦ (let bad : is_open h m ≡ true = was_open e.ask e.answer (length h + 1) m (open_mounts h) (not_next m (length h) low) op in absurd (cc)) | inr c ↦ c ]

pub empty_if : (b : Bool) (js : List Job) → (if b then without_jobs js [] else []) ≡ []
empty_if true js = refl
empty_if false js = refl

pub claims_none : (site : Site) (h : History) (t m : ℕ) (k : Ask) (a : Answer) (before : List Item) → a ≡ answer_of site h t k → is_open h m ≡ false → before ≡ [] → claimed_after k a m before ≡ []
claims_none site h t m (ask.Claim k) (answer.Batch items evicted) before is d none =
    elim (bool_cases (k == m)) [
      | inl hit ↦
          (let op : is_open h k ≡ true = claim_is_open site h t k items evicted is in
          let same : k ≡ m = eqb-true k m hit in
          let bad : is_open h m ≡ true = subst (λ (x : ℕ). is_open h x ≡ true) same op in
          absurd (cc))
      | inr miss ↦ rw miss none
    ]
claims_none site h t m (ask.Flushed k items) a before is d none = rw none (empty_if (k == m) (item_jobs items.items))
claims_none site h t m (ask.Recalled k job) a before is d none = rw none (empty_if (k == m) (job ∷ []))
claims_none site h t m (ask.Failed k f charged returned) a before is d none = rw none (empty_if (k == m) (charged.items ++ returned.items))
claims_none site h t m _ a before is d none = none

pub stays_closed : (site : Site) (newer h : History) (m : ℕ) → IsLegal site (newer ++ h) → IsClosed h m → IsClosed (newer ++ h) m
unfolding IsClosed
stays_closed site [] h m legal c = c
stays_closed site (e ∷ newer) h m legal c =
    let older : IsClosed (newer ++ h) m = stays_closed site newer h m legal.0 c in
    let low : m ≤ length (newer ++ h) = older.0 in
    (omega arith, not_open (newer ++ h) e m low older.1, claims_none site (newer ++ h) e.at m e.ask e.answer (claimed_items (newer ++ h) m) legal.1.answered older.1 older.2)

pub end_by : (known : Bool) (a : Answer) → a ≡ refuse refusal.Unknown (not known) answer.Done → is_accepted a ≡ true → known ≡ true
end_by true a e y = refl
end_by false a e y = absurd (cc)

pub nothing_left : (xs : List Item) → is_empty xs ≡ true → xs ≡ []
nothing_left [] e = refl
nothing_left (x ∷ xs) e = absurd (cc)

pub closed_by : (site : Site) (h : History) (e : Entry) (m : ℕ) (fault : Option Fault) (k : Ask) → e.ask ≡ k → k ≡ ask.End m fault → IsNext site h e → IsClosed (e ∷ h) m
unfolding IsClosed
closed_by site h e m fault k ek is next =
    let same : e.ask ≡ ask.End m fault = ek ∙ is in
    let answered : e.answer ≡ answer_of site h e.at (ask.End m fault) = next.answered ∙ ap (answer_of site h e.at) same in
    let known : is_open h m && is_empty (claimed_items h m) ≡ true = end_by (is_open h m && is_empty (claimed_items h m)) e.answer answered next.accepted in
    let op : is_open h m ≡ true = (and_parts (is_open h m) _ known).0 in
    let none : claimed_items h m ≡ [] = nothing_left (claimed_items h m) (and_parts (is_open h m) _ known).1 in
    let low : m ≤ length h = open_older h m op in
    (omega arith, rw same (filtered_out m (open_mounts h)), rw same none)

pub claims_nothing_after_end : ClaimsNothingAfterEnd
unfolding IsClosed
claims_nothing_after_end site newer h e m fault legal is =
    let closed : IsClosed (newer ++ e ∷ h) m = stays_closed site newer (e ∷ h) m legal (closed_by site h e m fault e.ask refl is (legal_older site newer (e ∷ h) legal).1) in
    (closed.1, closed.2)
