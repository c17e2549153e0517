-- An open mount stays, and a tape is in at most one.
use Rattle.std.proofs.Common.{◌≡◌, ℕ, ◌+◌, ◌≤◌, ◌⊎◌, inl, inr, List, [], ◌∷◌, ◌++◌, Bool, true, false, not, refl, sym, ◌∙◌, ap, subst, length}
use Rattle.std.specs.Prelude.{Some, None, if◌then◌else◌, ◌==◌, filter, nat_le}
use Rattle.std.proofs.lemmas.Bool.{and_parts, eqb-true, eq-eqb}
use Rattle.std.proofs.lemmas.Bool.Decides.{eqb_tells}
use Rattle.cta_site.specs.declared.site.Site.{Site}
use Rattle.cta_model.specs.declared.entries.Entry.{Entry}
use Rattle.cta_model.specs.declared.asks.Ask.{Ask}
use Rattle.cta_model.specs.declared.asks.Ask.TheVariants as ask
use Rattle.cta_model.specs.declared.answers.Answer.{Answer}
use Rattle.cta_model.specs.declared.answers.Answer.TheVariants as answer
use Rattle.cta_model.specs.declared.asks.Item.{Item}
use Rattle.cta_model.specs.declared.states.Mount.{Mount}
use Rattle.cta_model.specs.declared.states.Place.{Place}
use Rattle.cta_model.specs.History.{History, has_number, is_empty}
use Rattle.cta_model.specs.Files.{is_live}
use Rattle.cta_model.specs.Mounts.{mount_of, mount_in, tape_by, tape_of_mount, asked_mount, is_open, is_mounted, open_mounts, open_after, claimed_items, claimed_after, item_jobs, last_batch}
use Rattle.cta_model.specs.Tapes.{tape_items, items_after, tape_state, is_broken}
use Rattle.cta_model.specs.Places.{place_of, last_flushed, fseq_after, flushed_in, live_items_on}
use Rattle.cta_model.specs.Answers.{answer_of, is_accepted, is_too_heavy, is_known, is_last_batch, reclaim_answer}
use Rattle.cta_model.specs.Legal.{IsLegal, IsNext}
use Rattle.cta_laws.specs.Mounts.{are_about_others, IsMountKept, OpenMountStays, TapesAreMountedOnce}
use Rattle.cta_laws.proofs.Tests.{bool_cases, or_left, or_right, or_cases}
use Rattle.cta_laws.proofs.OpenMounts.{mount_older, mount_newest, open_older}
use Rattle.cta_laws.proofs.PlaceLaw.{flushed_known, reclaim_none, place_cases, flushed_below, live_before, live_place}
use Rattle.cta_laws.proofs.FseqLaw.{any_filter, open_mounted}
use Rattle.cta_laws.proofs.QuotaLaw.{mounted_tape}

-- ---- what an open mount is

-- a mount that is open after an entry was open, or is the entry's
abbrev pub IsNew : Site → History → Entry → ℕ → Type 0
IsNew site h e m = (m ≡ length h + 1) × ((x : Mount) × (mount_in e.ask e.answer ≡ Some x) × (is_mounted h x.tape ≡ false))

pub opened : (site : Site) (h : History) (e : Entry) (m : ℕ) (k : Ask) (a : Answer) → e.ask ≡ k → e.answer ≡ a → IsNext site h e → has_number m (open_after k a (length h + 1) (open_mounts h)) ≡ true → (is_open h m ≡ true) ⊎ IsNew site h e m
opened site h e m (ask.Next d) (answer.Mounted u w v) ek ea next op =
    elim (or_cases (m == length h + 1) (has_number m (open_mounts h)) op) [
      | inl new ↦
          (let x : Mount = record { drive = d; direction = w; tape = v } in
          let made : mount_in e.ask e.answer ≡ Some (record { drive = d; direction = w; tape = v }) = ap (λ (k : Ask). mount_in k e.answer) ek ∙ ap (λ (a : Answer). mount_in (ask.Next d) a) ea in
          inr (eqb-true m (length h + 1) new, (record { drive = d; direction = w; tape = v }, made, mounted_tape site h e d u w v next ek ea)))
      | inr old ↦ inl old
    ]
opened site h e m (ask.End u f) a ek ea next op = inl (any_filter (λ k. not (k == u)) m (open_mounts h) op)
opened site h e m _ a ek ea next op = inl op

-- an open mount is there
pub open_there : (site : Site) (h : History) → IsLegal site h → (m : ℕ) → is_open h m ≡ true → (x : Mount) × (mount_of h m ≡ Some x)
open_there site [] legal m op = absurd (cc)
open_there site (e ∷ h) legal m op =
    elim (opened site h e m e.ask e.answer refl refl legal.1 op) [
      | inl old ↦ (let x : (x : Mount) × (mount_of h m ≡ Some x) = open_there site h legal.0 m old in (x.0, mount_older e h m (open_older h m old) ∙ x.1))
      | inr new ↦ (new.1.0, ap (mount_of (e ∷ h)) new.0 ∙ mount_newest e h ∙ new.1.1)
    ]

-- the tape of an open mount is mounted
pub tape_is_mounted : (site : Site) (h : History) → IsLegal site h → (m : ℕ) → is_open h m ≡ true → is_mounted h (tape_of_mount h m) ≡ true
tape_is_mounted site h legal m op = (let x : (x : Mount) × (mount_of h m ≡ Some x) = open_there site h legal m op in open_mounted h m x.0 x.1 op)

pub new_tape : (site : Site) (h : History) (e : Entry) (m : ℕ) → IsNew site h e m → is_mounted h (tape_of_mount (e ∷ h) m) ≡ false
new_tape site h e m new =
    let there : mount_of (e ∷ h) m ≡ Some new.1.0 = ap (mount_of (e ∷ h)) new.0 ∙ mount_newest e h ∙ new.1.1 in
    subst (λ (v : ℕ). is_mounted h v ≡ false) (sym (ap tape_by there)) new.1.2

pub old_tape : (e : Entry) (h : History) (m : ℕ) → is_open h m ≡ true → tape_of_mount (e ∷ h) m ≡ tape_of_mount h m
old_tape e h m op = ap tape_by (mount_older e h m (open_older h m op))

-- a new mount and an old one have two tapes
pub not_both : (site : Site) (h : History) (e : Entry) (m n : ℕ) → IsLegal site h → IsNew site h e m → is_open h n ≡ true → tape_of_mount (e ∷ h) m ≡ tape_of_mount (e ∷ h) n → ⊥
not_both site h e m n legal new old same =
    let free : is_mounted h (tape_of_mount (e ∷ h) m) ≡ false = new_tape site h e m new in
    let taken : is_mounted h (tape_of_mount h n) ≡ true = tape_is_mounted site h legal n old in
    let tape : tape_of_mount (e ∷ h) m ≡ tape_of_mount h n = same ∙ old_tape e h n old in
    let bad : is_mounted h (tape_of_mount h n) ≡ false = subst (λ (v : ℕ). is_mounted h v ≡ false) tape free in
    absurd (cc)

pub tapes_are_mounted_once : TapesAreMountedOnce
tapes_are_mounted_once site [] legal m n om on same = absurd (cc)
tapes_are_mounted_once site (e ∷ h) legal m n om on same =
    elim (opened site h e m e.ask e.answer refl refl legal.1 om) [
      | inl oldm ↦
          elim (opened site h e n e.ask e.answer refl refl legal.1 on) [
            | inl oldn ↦ tapes_are_mounted_once site h legal.0 m n oldm oldn (sym (old_tape e h m oldm) ∙ same ∙ old_tape e h n oldn)
            | inr newn ↦ absurd (not_both site h e n m legal.0 newn oldm (sym same))
          ]
      | inr newm ↦
          elim (opened site h e n e.ask e.answer refl refl legal.1 on) [
            | inl oldn ↦ absurd (not_both site h e m n legal.0 newm oldn same)
            | inr newn ↦ newm.0 ∙ sym newn.0
          ]
    ]

-- ---- one entry that is about another

pub number_filter : (keep : ℕ → Bool) (m : ℕ) (ms : List ℕ) → keep m ≡ true → has_number m ms ≡ true → has_number m (filter keep ms) ≡ true
number_filter keep m [] k e = absurd (cc)
number_filter keep m (n ∷ ms) k e =
    elim (bool_cases (m == n)) [
      | inl hit ↦ (let here : keep n ≡ true = subst (λ (x : ℕ). keep x ≡ true) (eqb-true m n hit) k in rw here (or_left (m == n) _ hit))
      | inr miss ↦
          (let rest : has_number m (filter keep ms) ≡ true = number_filter keep m ms k (rw miss at e) in
          elim (keep n) as (λ b. has_number m (if b then n ∷ filter keep ms else filter keep ms) ≡ true) [ true ↦ or_right (m == n) _ rest | false ↦ rest ])
    ]

pub turned : (m k : ℕ) → (k == m) ≡ false → not (m == k) ≡ true
turned m k d = elim (eqb_tells m k) [ inl y ↦ (let bad : k == m ≡ true = eq-eqb k m (sym y.1) in absurd (cc)) | inr y ↦ rw y.0 refl ]

pub other_open : (k : Ask) (a : Answer) (n m : ℕ) (ms : List ℕ) → (asked_mount k == m) ≡ false → has_number m ms ≡ true → has_number m (open_after k a n ms) ≡ true
other_open (ask.Next d) (answer.Mounted u w v) n m ms d' e = or_right (m == n) _ e
other_open (ask.End u f) a n m ms d' e = number_filter (λ x. not (x == u)) m ms (turned m u d') e
other_open _ a n m ms d' e = e

pub other_claims : (k : Ask) (a : Answer) (m : ℕ) (before : List Item) → (asked_mount k == m) ≡ false → claimed_after k a m before ≡ before
other_claims (ask.Claim k) (answer.Batch items evicted) m before d = rw d refl
other_claims (ask.Flushed k items) a m before d = rw d refl
other_claims (ask.Recalled k job) a m before d = rw d refl
other_claims (ask.Failed k f charged returned) a m before d = rw d refl
other_claims _ a m before d = refl

-- what another open mount flushes is on another tape
pub other_tape : (site : Site) (h : History) → IsLegal site h → (m k : ℕ) → is_open h m ≡ true → is_open h k ≡ true → (k == m) ≡ false → (tape_of_mount h k == tape_of_mount h m) ≡ false
other_tape site h legal m k om ok d =
    elim (bool_cases (tape_of_mount h k == tape_of_mount h m)) [
      | inl hit ↦
          (let same : k ≡ m = tapes_are_mounted_once site h legal k m ok om (eqb-true _ _ hit) in
          let bad : k == m ≡ true = eq-eqb k m same in
          absurd (cc))
      | inr miss ↦ miss
    ]

pub other_items : (site : Site) (h : History) → IsLegal site h → (t : ℕ) (k : Ask) (a : Answer) (m : ℕ) → a ≡ answer_of site h t k → is_accepted a ≡ true → is_open h m ≡ true → (asked_mount k == m) ≡ false → items_after k (tape_of_mount h m) (tape_of_mount h (asked_mount k)) (tape_items h (tape_of_mount h m)) ≡ tape_items h (tape_of_mount h m)
other_items site h legal t (ask.Flushed u items) a m is y op d =
    let known : (is_known h u (item_jobs items.items) ≡ true) × (is_last_batch (last_batch h u) items.items ≡ true) = flushed_known site h t u items a is y in
    let ou : is_open h u ≡ true = (and_parts (is_open h u) _ known.0).0 in
    rw (other_tape site h legal m u op ou d) refl
other_items site h legal t (ask.Reclaim who u) a m is y op d =
    elim (bool_cases (u == tape_of_mount h m)) [
      | inl hit ↦
          (let none : (is_empty (live_items_on h u) ≡ true) × (is_mounted h u ≡ false) = reclaim_none (is_too_heavy site h (ask.Reclaim who u) (reclaim_answer site h u)) (nat_le (length site.tapes.items) u) (is_mounted h u) (is_broken (tape_state site h u)) (is_empty (live_items_on h u)) a is y in
          let up : is_mounted h (tape_of_mount h m) ≡ true = tape_is_mounted site h legal m op in
          let here : is_mounted h (tape_of_mount h m) ≡ false = subst (λ (x : ℕ). is_mounted h x ≡ false) (eqb-true u _ hit) none.1 in
          absurd (cc))
      | inr miss ↦ rw miss refl
    ]
other_items site h legal t _ a m is y op d = refl

-- an entry about another puts no copy on the mount's tape
pub other_puts : (site : Site) (h : History) → IsLegal site h → (t : ℕ) (k : Ask) (a : Answer) (m f c s : ℕ) → a ≡ answer_of site h t k → is_accepted a ≡ true → is_open h m ≡ true → (asked_mount k == m) ≡ false → fseq_after (flushed_in k a) f c None ≡ Some s → (tape_of_mount h (asked_mount k) == tape_of_mount h m) ≡ false
other_puts site h legal t (ask.Flushed u items) (answer.Told fates) m f c s is y op d e =
    let known : (is_known h u (item_jobs items.items) ≡ true) × (is_last_batch (last_batch h u) items.items ≡ true) = flushed_known site h t u items (answer.Told fates) is y in
    let ou : is_open h u ≡ true = (and_parts (is_open h u) _ known.0).0 in
    other_tape site h legal m u op ou d
other_puts site h legal t _ a m f c s is y op d e = absurd (cc)

pub other_place : (site : Site) (h : History) (e : Entry) → IsLegal site (e ∷ h) → (m : ℕ) → is_open h m ≡ true → (asked_mount e.ask == m) ≡ false → (f c : ℕ) (p : Place) → p.tape ≡ tape_of_mount h m → place_of (e ∷ h) f c ≡ Some p → place_of h f c ≡ Some p
other_place site h e legal m op d f c p on is =
    let parts : (is_live (e ∷ h) f ≡ true) × (last_flushed (e ∷ h) f c ≡ Some p) = live_place (e ∷ h) f c p is in
    elim (place_cases c (tape_of_mount h (asked_mount e.ask)) (fseq_after (flushed_in e.ask e.answer) f c None) (last_flushed h f c) p parts.1) [
      | inl new ↦
          (let other : (tape_of_mount h (asked_mount e.ask) == tape_of_mount h m) ≡ false = other_puts site h legal.0 e.at e.ask e.answer m f c p.fseq legal.1.answered legal.1.accepted op d new.0 in
          let same : tape_of_mount h (asked_mount e.ask) ≡ tape_of_mount h m = new.1 ∙ on in
          let yes_same : (tape_of_mount h (asked_mount e.ask) == tape_of_mount h m) ≡ true = eq-eqb _ _ same in
          absurd (cc))
      | inr old ↦
          (let low : f ≤ length h = flushed_below site h legal.0 f c p old.1 in
          let live : is_live h f ≡ true = live_before e h f low parts.0 in
          rw live old.1)
    ]

-- ---- many entries

pub not_is : (b : Bool) → not b ≡ true → b ≡ false
not_is true e = absurd (cc)
not_is false e = refl

pub open_mount_stays : OpenMountStays
open_mount_stays site [] h m legal op others = record { still_open = op; same_tape = refl; same_claims = refl; same_items = refl; old_places = λ f c p on is. is }
open_mount_stays site (e ∷ newer) h m legal op others =
    let parts : (not (asked_mount e.ask == m) ≡ true) × (are_about_others m newer ≡ true) = and_parts _ _ others in
    let d : (asked_mount e.ask == m) ≡ false = not_is _ parts.0 in
    let kept : IsMountKept (newer ++ h) h m = open_mount_stays site newer h m legal.0 op parts.1 in
    let same : tape_of_mount (newer ++ h) m ≡ tape_of_mount h m = kept.same_tape in
    record {
      still_open = other_open e.ask e.answer (length (newer ++ h) + 1) m (open_mounts (newer ++ h)) d kept.still_open;
      same_tape = old_tape e (newer ++ h) m kept.still_open ∙ same;
      same_claims = other_claims e.ask e.answer m (claimed_items (newer ++ h) m) d ∙ kept.same_claims;
      same_items = subst (λ (v : ℕ). tape_items (e ∷ newer ++ h) v ≡ tape_items (newer ++ h) v) same (other_items site (newer ++ h) legal.0 e.at e.ask e.answer m legal.1.answered legal.1.accepted kept.still_open d) ∙ kept.same_items;
      old_places = λ f c p on is. kept.old_places f c p on (other_place site (newer ++ h) e legal m kept.still_open d f c p (on ∙ sym same) is);
    }
