-- A drive has at most one open mount, and which entries open one.
use Rattle.std.proofs.Common.{◌≡◌, ◌≢◌, ℕ, ◌<◌, ◌⊎◌, inl, inr, Bool, true, false, not, ◌==◌, List, [], ◌∷◌, length, refl, sym, ap, ◌∙◌, subst}
use Rattle.std.specs.Prelude.{Some, None, filter, if◌then◌else◌, ◌||◌}
use Rattle.std.specs.List.{list_any}
use Rattle.std.proofs.lemmas.Bool.{cases_Bool, eqb-true, eq-eqb}
use Rattle.std.proofs.lemmas.Option.{none-some, same_Some}
use Rattle.cta_site.specs.declared.site.Site.{Site}
use Rattle.cta_model.specs.declared.answers.Answer.{Answer}
use Rattle.cta_model.specs.declared.answers.Answer.TheVariants as answer
use Rattle.cta_model.specs.declared.answers.Refusal.{Refusal}
use Rattle.cta_model.specs.declared.answers.Refusal.TheVariants as refusal
use Rattle.cta_model.specs.declared.asks.Ask.{Ask}
use Rattle.cta_model.specs.declared.asks.Ask.TheVariants as ask
use Rattle.cta_model.specs.declared.asks.Direction.{Direction}
use Rattle.cta_model.specs.declared.entries.Entry.{Entry}
use Rattle.cta_model.specs.declared.states.Mount.{Mount}
use Rattle.cta_model.specs.Answers.{answer_of, is_accepted, is_too_heavy, mounted, next_answer, refuse}
use Rattle.cta_model.specs.Choice.{mount_choice}
use Rattle.cta_model.specs.History.{History, has_number, moment_of, next_number}
use Rattle.cta_model.specs.Legal.{IsFit, IsLegal, IsNext}
use Rattle.cta_model.specs.Mounts.{is_busy, is_down, is_mount, mount_in, mount_of, open_after, open_mounts}
use Rattle.drive_session.specs.Fits.{IsMountAt}
use Rattle.replay.specs.Desk.{HasNoMount}

-- ---- lists of numbers

or_true : (b : Bool) → (b || true) ≡ true
or_true true = refl
or_true false = refl

pub any_there : (test : ℕ → Bool) (m : ℕ) (ms : List ℕ) → has_number m ms ≡ true → test m ≡ true → list_any test ms ≡ true
any_there test m [] here is = absurd (let no : false ≡ true = here in cc)
any_there test m (k ∷ ms) here is =
    elim (cases_Bool (m == k)) [
      | inl hit ↦ (let same : test k ≡ true = ap test (sym (eqb-true m k hit)) ∙ is in rw same refl)
      | inr miss ↦ (let rest : list_any test ms ≡ true = any_there test m ms (rw miss at here) is in rw rest (or_true (test k)))
    ]

kept_number : (keep : ℕ → Bool) (m : ℕ) (ms : List ℕ) → has_number m (filter keep ms) ≡ true → (has_number m ms ≡ true) × (keep m ≡ true)
kept_number keep m [] here = absurd (let no : false ≡ true = here in cc)
kept_number keep m (k ∷ ms) here =
    elim (cases_Bool (keep k)) [
      | inl stays ↦
          let there : has_number m (k ∷ filter keep ms) ≡ true = rw stays at here in
          elim (cases_Bool (m == k)) [
            | inl hit ↦ (rw hit refl, ap keep (eqb-true m k hit) ∙ stays)
            | inr miss ↦ (let rest = kept_number keep m ms (rw miss at there) in (rw miss rest.0, rest.1))
          ]
      | inr goes ↦
          let rest = kept_number keep m ms (rw goes at here) in
          (rw rest.0 (or_true (m == k)), rest.1)
    ]

-- ---- mounts of one entry more

-- a number that is open behind an entry and isn't the entry's was open before
open_before : (k : Ask) (a : Answer) (n m : ℕ) (ms : List ℕ) → (m == n) ≡ false → has_number m (open_after k a n ms) ≡ true → has_number m ms ≡ true
open_before (ask.Next d) (answer.Mounted j way v) n m ms other here = rw other at here
open_before (ask.End j f) a n m ms other here = (kept_number (λ i. not (i == j)) m ms here).0
open_before _ a n m ms other here = here

-- an open mount of a drive is one that the newest entry makes, or was open before
pub newer_or_older : (e : Entry) (h : History) (d m : ℕ) (way : Direction) (v : ℕ) → IsMountAt (e ∷ h) d m way v
    → ((m ≡ next_number h) × (mount_in e.ask e.answer ≡ Some (record { drive = d; direction = way; tape = v }))) ⊎ IsMountAt h d m way v
newer_or_older e h d m way v at =
    elim (cases_Bool (m == next_number h)) [
      | inl new ↦ inl (eqb-true m (next_number h) new, rw new at at.mount)
      | inr old ↦ inr (record { still = open_before e.ask e.answer (next_number h) m (open_mounts h) old at.still; mount = rw old at at.mount })
    ]

-- a mount that was ended is not open
pub ended_not_open : (m : ℕ) (ms : List ℕ) → has_number m (filter (λ i. not (i == m)) ms) ≡ true → ⊥
ended_not_open m ms here =
    let same : (m == m) ≡ true = eq-eqb m m refl in
    let stays : not (m == m) ≡ true = (kept_number (λ i. not (i == m)) m ms here).1 in
    let no : false ≡ true = rw same at stays in
    cc

-- ---- a drive that has a mount gets no other

pub busy_at : (h : History) (d m : ℕ) (way : Direction) (v : ℕ) → IsMountAt h d m way v → is_busy h d ≡ true
busy_at h d m way v at =
    any_there (λ k. is_mount (λ (x : Mount). x.drive == d) (mount_of h k)) m (open_mounts h) at.still (ap (is_mount (λ (x : Mount). x.drive == d)) at.mount ∙ eq-eqb d d refl)

refused_not : (r : Refusal) (b : Bool) (a : Answer) → is_accepted a ≡ false → is_accepted (refuse r b a) ≡ false
refused_not r true a not_it = refl
refused_not r false a not_it = not_it

busy_or_down : (down busy : Bool) (a : Answer) → busy ≡ true → is_accepted (if down then answer.DriveDown else if busy then answer.DriveBusy else a) ≡ false
busy_or_down true busy a is = refl
busy_or_down false true a is = refl
busy_or_down false false a is = absurd (let no : false ≡ true = is in cc)

busy_refused : (site : Site) (h : History) (t d : ℕ) → is_busy h d ≡ true → is_accepted (answer_of site h t (ask.Next d)) ≡ false
busy_refused site h t d busy =
    let at = moment_of h t in
    let a = mounted (next_number h) (mount_choice site h at d) in
    refused_not refusal.HistoryFull (is_too_heavy site h (ask.Next d) (next_answer site h at d)) (next_answer site h at d)
    (refused_not refusal.NoDrive _ (if is_down h d then answer.DriveDown else if is_busy h d then answer.DriveBusy else a) (busy_or_down (is_down h d) (is_busy h d) a busy))

-- the drive of a mount that an ask makes has no other one
makes_of_idle : (site : Site) (h : History) (t : ℕ) (k : Ask) (a : Answer) (x : Mount) → a ≡ answer_of site h t k → is_accepted a ≡ true → mount_in k a ≡ Some x → is_busy h x.drive ≡ true → ⊥
makes_of_idle site h t (ask.Next d) (answer.Mounted m way v) x is ok made busy =
    let drive : d ≡ x.drive = ap (λ (y : Mount). y.drive) (same_Some _ x made) in
    let not_ok : is_accepted (answer_of site h t (ask.Next d)) ≡ false = busy_refused site h t d (ap (is_busy h) drive ∙ busy) in
    let no : true ≡ false = sym ok ∙ ap is_accepted is ∙ not_ok in
    cc
makes_of_idle site h t _ a x is ok made busy = absurd (let no : None ≡ Some x = made in none-some x no)

not_twice : (site : Site) (h : History) (e : Entry) (d m : ℕ) (way way' : Direction) (v v' : ℕ) → IsNext site h e → mount_in e.ask e.answer ≡ Some (record { drive = d; direction = way; tape = v }) → IsMountAt h d m way' v' → ⊥
not_twice site h e d m way way' v v' next made at = makes_of_idle site h e.at e.ask e.answer (record { drive = d; direction = way; tape = v }) next.answered next.accepted made (busy_at h d m way' v' at)

pub one_mount : (site : Site) (h : History) → IsLegal site h → (d m n : ℕ) (way way' : Direction) (v v' : ℕ) → IsMountAt h d m way v → IsMountAt h d n way' v' → m ≡ n
one_mount site [] legal d m n way way' v v' a b = absurd (let no : false ≡ true = a.still in cc)
one_mount site (e ∷ h) legal d m n way way' v v' a b =
    elim (newer_or_older e h d m way v a) [
      | inl new ↦
          elim (newer_or_older e h d n way' v' b) [
            | inl other ↦ new.0 ∙ sym other.0
            | inr old ↦ absurd (not_twice site h e d n way way' v v' legal.1 new.1 old)
          ]
      | inr old ↦
          elim (newer_or_older e h d n way' v' b) [
            | inl new ↦ absurd (not_twice site h e d m way' way v' v legal.1 new.1 old)
            | inr other ↦ one_mount site h legal.0 d m n way way' v v' old other
          ]
    ]

-- ---- the drive of a mount is one of the site

made_on_site : (site : Site) (h : History) (k : Ask) (a : Answer) (x : Mount) → IsFit site h k → mount_in k a ≡ Some x → x.drive < length site.drives.items
made_on_site site h (ask.Next d) (answer.Mounted m way v) x fit made = subst (λ n. n < length site.drives.items) (ap (λ (y : Mount). y.drive) (same_Some _ x made)) fit
made_on_site site h _ a x fit made = absurd (let no : None ≡ Some x = made in none-some x no)

pub drive_on_site : (site : Site) (h : History) (m : ℕ) (x : Mount) → IsLegal site h → mount_of h m ≡ Some x → x.drive < length site.drives.items
drive_on_site site [] m x legal is = absurd (none-some x is)
drive_on_site site (e ∷ h) m x legal is =
    elim (cases_Bool (m == next_number h)) [
      | inl new ↦ made_on_site site h e.ask e.answer x legal.1.fit (rw new at is)
      | inr old ↦ drive_on_site site h m x legal.0 (rw old at is)
    ]

-- ---- a drive with no mount

-- an entry that makes no mount of the drive leaves it without one
pub stays_idle : (e : Entry) (h : History) (d : ℕ) → ((x : Mount) → mount_in e.ask e.answer ≡ Some x → x.drive ≢ d) → HasNoMount h d → HasNoMount (e ∷ h) d
stays_idle e h d makes_none idle m way v at =
    elim (newer_or_older e h d m way v at) [
      | inl new ↦ makes_none (record { drive = d; direction = way; tape = v }) new.1 refl
      | inr old ↦ idle m way v old
    ]
