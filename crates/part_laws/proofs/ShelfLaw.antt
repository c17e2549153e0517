-- The shelf moves with the mounts.
use Rattle.std.proofs.Common.{◌≡◌, ◌∙◌, ℕ, ◌+◌, ◌<◌, inl, inr, List, [], ◌∷◌, Bool, true, false, ◌&&◌, ◌||◌, not, refl, sym, ap, subst, length}
use Rattle.std.specs.Prelude.{Option, Some, None, IfSome, if◌then◌else◌, ◌==◌, filter}
use Rattle.std.specs.List.{list_any}
use Rattle.std.proofs.lemmas.Bool.{and_parts, eqb-true, eq-eqb}
use Rattle.blob.specs.Records.{MediumView, TapeRecords}
use Rattle.cta_site.specs.declared.site.Site.{Site}
use Rattle.cta_model.specs.declared.asks.Ask.{Ask}
use Rattle.cta_model.specs.declared.asks.Ask.TheVariants as ask
use Rattle.cta_model.specs.declared.asks.Direction.{Direction}
use Rattle.cta_model.specs.declared.asks.Fault.{Fault}
use Rattle.cta_model.specs.declared.answers.Answer.{Answer}
use Rattle.cta_model.specs.declared.answers.Answer.TheVariants as answer
use Rattle.cta_model.specs.declared.entries.Entry.{Entry}
use Rattle.cta_model.specs.declared.states.Mount.{Mount}
use Rattle.cta_model.specs.History.{History, has_number, is_empty}
use Rattle.cta_model.specs.Mounts.{claimed_items, is_mount, is_mounted, is_open, mount_in, mount_of, open_after, open_mounts, tape_by, tape_of_mount}
use Rattle.cta_model.specs.Answers.{answer_of}
use Rattle.cta_model.specs.Media.{IsMediumOf, IsTrueMedium}
use Rattle.cta_model.specs.Legal.{IsLegal}
use Rattle.cta_laws.specs.Changes.{may_change_mounts}
use Rattle.cta_laws.specs.Media.{puts_on}
use Rattle.cta_laws.proofs.Bools.{same_bool}
use Rattle.cta_laws.proofs.ClosedLaw.{end_by}
use Rattle.cta_laws.proofs.Frames.{mounts_same}
use Rattle.cta_laws.proofs.FseqLaw.{any_filter}
use Rattle.cta_laws.proofs.MediaLaw.{shelf_stays_true, true_medium_stays}
use Rattle.cta_laws.proofs.MountLaw.{number_filter, tape_is_mounted, tapes_are_mounted_once}
use Rattle.cta_laws.proofs.OpenMounts.{mount_newest, mount_older, open_older}
use Rattle.cta_laws.proofs.QuotaLaw.{mounted_tape}
use Rattle.cta_laws.proofs.Tests.{bool_cases, or_cases, or_left, or_right}
use Rattle.part_laws.proofs.NextTape.{next_low}
use Rattle.part_laws.specs.Shelf.{EndBringsMedium, IsPlaceOf, NextTakesMedium, ShelfStartsFull, ShelfStays}

-- ---- mounted tapes

-- an open mount of a tape
abbrev Mounts : History → ℕ → Type 0
Mounts h v = (m : ℕ) × (is_open h m ≡ true) × (tape_of_mount h m ≡ v)

some_mount : (h : History) (v : ℕ) (ms : List ℕ) → list_any (λ m. is_mount (λ (x : Mount). x.tape == v) (mount_of h m)) ms ≡ true → (m : ℕ) × (has_number m ms ≡ true) × (tape_of_mount h m ≡ v)
some_mount h v [] e = absurd (cc)
some_mount h v (m ∷ ms) e =
    elim (or_cases (is_mount (λ (x : Mount). x.tape == v) (mount_of h m)) (list_any (λ m. is_mount (λ (x : Mount). x.tape == v) (mount_of h m)) ms) e) [
      | inl here ↦ (m, or_left (m == m) (has_number m ms) (eq-eqb m m refl), by (mount_of h m) refl here)
      | inr rest ↦ (let x = some_mount h v ms rest in (x.0, or_right (x.0 == m) (has_number x.0 ms) x.1, x.2))
    ]
  where
    by : (o : Option Mount) → mount_of h m ≡ o → is_mount (λ (x : Mount). x.tape == v) o ≡ true → tape_of_mount h m ≡ v
    by None is hit = absurd (cc)
    by (Some x) is hit = ap tape_by is ∙ eqb-true x.tape v hit

mounted_by : (h : History) (v : ℕ) → is_mounted h v ≡ true → Mounts h v
mounted_by h v e = some_mount h v (open_mounts h) e

mounts_tape : (site : Site) (h : History) (v : ℕ) → IsLegal site h → Mounts h v → is_mounted h v ≡ true
mounts_tape site h v legal x = subst (λ (n : ℕ). is_mounted h n ≡ true) x.2 (tape_is_mounted site h legal x.0 x.1)

tape_older : (e : Entry) (h : History) (m : ℕ) → is_open h m ≡ true → tape_of_mount (e ∷ h) m ≡ tape_of_mount h m
tape_older e h m op = ap tape_by (mount_older e h m (open_older h m op))

-- ---- an entry that opens and ends no mount

mounted_stays : (site : Site) (h : History) (e : Entry) (v : ℕ) → IsLegal site (e ∷ h) → may_change_mounts e.ask ≡ false → is_mounted (e ∷ h) v ≡ is_mounted h v
mounted_stays site h e v legal quiet =
    same_bool (is_mounted (e ∷ h) v) (is_mounted h v) (λ on. mounts_tape site h v legal.0 (back (mounted_by (e ∷ h) v on))) (λ on. mounts_tape site (e ∷ h) v legal (forth (mounted_by h v on)))
  where
    back : Mounts (e ∷ h) v → Mounts h v
    back x = (let op : is_open h x.0 ≡ true = ap (has_number x.0) (sym (mounts_same e h quiet)) ∙ x.1 in (x.0, op, sym (tape_older e h x.0 op) ∙ x.2))

    forth : Mounts h v → Mounts (e ∷ h) v
    forth x = (x.0, ap (has_number x.0) (mounts_same e h quiet) ∙ x.1, tape_older e h x.0 x.1 ∙ x.2)

-- a medium that is true stays true where its tape is not mounted
records_stay : (site : Site) (h : History) (e : Entry) (v : ℕ) (x : Option TapeRecords) → IsLegal site (e ∷ h) → is_mounted h v ≡ false → IfSome x (IsTrueMedium h v) → IfSome x (IsTrueMedium (e ∷ h) v)
records_stay site h e v None legal off is = is
records_stay site h e v (Some t) legal off is = shelf_stays_true site h e v t legal off is

told_stays : (site : Site) (h : History) (e : Entry) (v : ℕ) (x : MediumView) → IsLegal site (e ∷ h) → is_mounted h v ≡ false → IsMediumOf h v x → IsMediumOf (e ∷ h) v x
told_stays site h e v x legal off is = record { label = is.label; truth = records_stay site h e v x.records legal off is.truth }

-- a place of a tape that stays as it was
place_stays : (site : Site) (h : History) (e : Entry) (v : ℕ) (b : Bool) (o : Option MediumView) → IsLegal site (e ∷ h) → is_mounted h v ≡ b → IsPlaceOf h v b o → IsPlaceOf (e ∷ h) v b o
place_stays site h e v true None legal on is = is
place_stays site h e v true (Some x) legal on is = absurd is
place_stays site h e v false None legal on is = absurd is
place_stays site h e v false (Some x) legal on is = told_stays site h e v x legal on is

-- the place of a tape whose being mounted stays
place_kept : (site : Site) (h : History) (e : Entry) (v : ℕ) (o : Option MediumView) → IsLegal site (e ∷ h) → is_mounted (e ∷ h) v ≡ is_mounted h v → IsPlaceOf h v (is_mounted h v) o → IsPlaceOf (e ∷ h) v (is_mounted (e ∷ h) v) o
place_kept site h e v o legal same is = subst (λ (b : Bool). IsPlaceOf (e ∷ h) v b o) (sym same) (place_stays site h e v (is_mounted h v) o legal refl is)

pub shelf_starts_full : ShelfStartsFull
shelf_starts_full site shelf media v low = media v low

pub shelf_stays : ShelfStays
shelf_stays site h e shelf legal quiet is v low = place_kept site h e v (shelf v) legal (mounted_stays site h e v legal quiet) (is v low)

-- ---- a Next

next_opens : (h : History) (e : Entry) (d m v : ℕ) (way : Direction) → e.ask ≡ ask.Next d → e.answer ≡ answer.Mounted m way v → open_mounts (e ∷ h) ≡ (length h + 1) ∷ open_mounts h
next_opens h e d m v way ek ea = ap (λ (k : Ask). open_after k e.answer (length h + 1) (open_mounts h)) ek ∙ ap (λ (a : Answer). open_after (ask.Next d) a (length h + 1) (open_mounts h)) ea

next_tape : (h : History) (e : Entry) (d m v : ℕ) (way : Direction) → e.ask ≡ ask.Next d → e.answer ≡ answer.Mounted m way v → tape_of_mount (e ∷ h) (length h + 1) ≡ v
next_tape h e d m v way ek ea =
    ap tape_by (mount_newest e h ∙ ap (λ (k : Ask). mount_in k e.answer) ek ∙ ap (λ (a : Answer). mount_in (ask.Next d) a) ea)

-- its tape is mounted, and every other tape as before
next_mounts : (site : Site) (h : History) (e : Entry) (d m v : ℕ) (way : Direction) → IsLegal site (e ∷ h) → e.ask ≡ ask.Next d → e.answer ≡ answer.Mounted m way v → (t : ℕ) → is_mounted (e ∷ h) t ≡ ((t == v) || is_mounted h t)
next_mounts site h e d m v way legal ek ea t =
    same_bool (is_mounted (e ∷ h) t) ((t == v) || is_mounted h t) (λ on. back (mounted_by (e ∷ h) t on)) (λ on. elim (or_cases (t == v) (is_mounted h t) on) [ inl new ↦ mounts_tape site (e ∷ h) t legal (made (eqb-true t v new)) | inr old ↦ mounts_tape site (e ∷ h) t legal (forth (mounted_by h t old)) ])
  where
    opens : open_mounts (e ∷ h) ≡ (length h + 1) ∷ open_mounts h
    opens = next_opens h e d m v way ek ea

    made : t ≡ v → Mounts (e ∷ h) t
    made same = (length h + 1, ap (has_number (length h + 1)) opens ∙ or_left (length h + 1 == length h + 1) (has_number (length h + 1) (open_mounts h)) (eq-eqb (length h + 1) (length h + 1) refl), next_tape h e d m v way ek ea ∙ sym same)

    forth : Mounts h t → Mounts (e ∷ h) t
    forth x = (x.0, ap (has_number x.0) opens ∙ or_right (x.0 == length h + 1) (has_number x.0 (open_mounts h)) x.1, tape_older e h x.0 x.1 ∙ x.2)

    back : Mounts (e ∷ h) t → ((t == v) || is_mounted h t) ≡ true
    back x =
        elim (or_cases (x.0 == length h + 1) (has_number x.0 (open_mounts h)) (sym (ap (has_number x.0) opens) ∙ x.1)) [
          | inl new ↦
              (let same : x.0 ≡ length h + 1 = eqb-true x.0 (length h + 1) new in
              or_left (t == v) (is_mounted h t) (eq-eqb t v (sym x.2 ∙ ap (tape_of_mount (e ∷ h)) same ∙ next_tape h e d m v way ek ea)))
          | inr old ↦ or_right (t == v) (is_mounted h t) (mounts_tape site h t legal.0 (x.0, old, sym (tape_older e h x.0 old) ∙ x.2))
        ]

-- a medium at the place of a tape that is not mounted
medium_there : (h : History) (v : ℕ) (b : Bool) (o : Option MediumView) → b ≡ false → IsPlaceOf h v b o → (x : MediumView) × (o ≡ Some x) × IsMediumOf h v x
medium_there h v true o off is = absurd (cc)
medium_there h v false None off is = absurd is
medium_there h v false (Some x) off is = (x, refl, is)

pub next_takes_medium : NextTakesMedium
next_takes_medium site h e d m v way shelf legal ek ea is =
    let on : v < length site.tapes.items = next_low site h e d m way v legal.1 ek ea in
    let off : is_mounted h v ≡ false = mounted_tape site h e d m way v legal.1 ek ea in
    let x = medium_there h v (is_mounted h v) (shelf v) off (is v on) in
    record {
      on_site = on;
      there = (x.0, x.1, told_stays site h e v x.0 legal off x.2);
      rest = λ t low. by t low (t == v) refl;
    }
  where
    by : (t : ℕ) → t < length site.tapes.items → (b : Bool) → (t == v) ≡ b → IsPlaceOf (e ∷ h) t (is_mounted (e ∷ h) t) (if b then None else shelf t)
    by t low true hit =
        let on : is_mounted (e ∷ h) t ≡ true = next_mounts site h e d m v way legal ek ea t ∙ ap (λ (b : Bool). b || is_mounted h t) hit in
        subst (λ (b : Bool). IsPlaceOf (e ∷ h) t b None) (sym on) tt
    by t low false miss =
        let same : is_mounted (e ∷ h) t ≡ is_mounted h t = next_mounts site h e d m v way legal ek ea t ∙ ap (λ (b : Bool). b || is_mounted h t) miss in
        place_kept site h e t (shelf t) legal same (is t low)

-- ---- an End

end_closes : (h : History) (e : Entry) (m : ℕ) (fault : Option Fault) → e.ask ≡ ask.End m fault → open_mounts (e ∷ h) ≡ filter (λ k. not (k == m)) (open_mounts h)
end_closes h e m fault ek = ap (λ (k : Ask). open_after k e.answer (length h + 1) (open_mounts h)) ek

-- its mount was open
end_was_open : (site : Site) (h : History) (e : Entry) (m : ℕ) (fault : Option Fault) → IsLegal site (e ∷ h) → e.ask ≡ ask.End m fault → is_open h m ≡ true
end_was_open site h e m fault legal ek =
    (and_parts (is_open h m) (is_empty (claimed_items h m)) (end_by (is_open h m && is_empty (claimed_items h m)) e.answer (legal.1.answered ∙ ap (answer_of site h e.at) ek) legal.1.accepted)).0

-- what is left of numbers passes the test
passes : (keep : ℕ → Bool) (n : ℕ) (ms : List ℕ) → has_number n (filter keep ms) ≡ true → keep n ≡ true
passes keep n [] there = absurd (cc)
passes keep n (k ∷ ms) there =
    elim (bool_cases (keep k)) [
      | inr out ↦ passes keep n ms (rw out at there)
      | inl stays ↦
          elim (or_cases (n == k) (has_number n (filter keep ms)) (rw stays at there)) [ inl same ↦ subst (λ (x : ℕ). keep x ≡ true) (sym (eqb-true n k same)) stays | inr rest ↦ passes keep n ms rest ]
    ]

-- its tape is not mounted, and every other tape as before
end_mounts : (site : Site) (h : History) (e : Entry) (m : ℕ) (fault : Option Fault) → IsLegal site (e ∷ h) → e.ask ≡ ask.End m fault → (t : ℕ) → is_mounted (e ∷ h) t ≡ (not (t == tape_of_mount h m) && is_mounted h t)
end_mounts site h e m fault legal ek t =
    same_bool (is_mounted (e ∷ h) t) (not (t == tape_of_mount h m) && is_mounted h t) (λ on. back (mounted_by (e ∷ h) t on)) forth
  where
    op : is_open h m ≡ true
    op = end_was_open site h e m fault legal ek

    closes : open_mounts (e ∷ h) ≡ filter (λ k. not (k == m)) (open_mounts h)
    closes = end_closes h e m fault ek

    back : Mounts (e ∷ h) t → (not (t == tape_of_mount h m) && is_mounted h t) ≡ true
    back x =
        let left : has_number x.0 (filter (λ k. not (k == m)) (open_mounts h)) ≡ true = sym (ap (has_number x.0) closes) ∙ x.1 in
        let was : (has_number x.0 (open_mounts h) ≡ true) × (not (x.0 == m) ≡ true) = (any_filter (λ k. not (k == m)) x.0 (open_mounts h) left, passes (λ k. not (k == m)) x.0 (open_mounts h) left) in
        let tape : tape_of_mount h x.0 ≡ t = sym (tape_older e h x.0 was.0) ∙ x.2 in
        let here : is_mounted h t ≡ true = mounts_tape site h t legal.0 (x.0, was.0, tape) in
        elim (bool_cases (t == tape_of_mount h m)) [
          | inr other ↦ rw (other, here) refl
          | inl same ↦
              (let once : x.0 ≡ m = tapes_are_mounted_once site h legal.0 x.0 m was.0 op (tape ∙ eqb-true t (tape_of_mount h m) same) in
              let bad : (x.0 == m) ≡ true = eq-eqb x.0 m once in
              let not_it : not (x.0 == m) ≡ true = was.1 in
              let clash : not true ≡ true = rw bad at not_it in
              absurd (cc))
        ]

    forth : (not (t == tape_of_mount h m) && is_mounted h t) ≡ true → is_mounted (e ∷ h) t ≡ true
    forth on =
        let parts = and_parts (not (t == tape_of_mount h m)) (is_mounted h t) on in
        let x : Mounts h t = mounted_by h t parts.1 in
        elim (bool_cases (x.0 == m)) [
          | inl same ↦
              (let tape : t ≡ tape_of_mount h m = sym x.2 ∙ ap (tape_of_mount h) (eqb-true x.0 m same) in
              let bad : (t == tape_of_mount h m) ≡ true = eq-eqb t (tape_of_mount h m) tape in
              let not_it : not (t == tape_of_mount h m) ≡ true = parts.0 in
              let clash : not true ≡ true = rw bad at not_it in
              absurd (cc))
          | inr other ↦
              mounts_tape site (e ∷ h) t legal
              (x.0, ap (has_number x.0) closes ∙ number_filter (λ k. not (k == m)) x.0 (open_mounts h) (ap not other) x.1, tape_older e h x.0 x.1 ∙ x.2)
        ]

pub end_brings_medium : EndBringsMedium
end_brings_medium site h e m fault x shelf legal ek true_now is t low = by (t == tape_of_mount h m) refl
  where
    quiet : puts_on h e.ask (tape_of_mount h m) ≡ false
    quiet = ap (λ (k : Ask). puts_on h k (tape_of_mount h m)) ek

    told : (o : Option TapeRecords) → IfSome o (IsTrueMedium h (tape_of_mount h m)) → IfSome o (IsTrueMedium (e ∷ h) (tape_of_mount h m))
    told None now = now
    told (Some r) now = true_medium_stays site h e (tape_of_mount h m) r legal quiet now

    by : (b : Bool) → (t == tape_of_mount h m) ≡ b → IsPlaceOf (e ∷ h) t (is_mounted (e ∷ h) t) (if b then Some x else shelf t)
    by true hit =
        let off : is_mounted (e ∷ h) t ≡ false = end_mounts site h e m fault legal ek t ∙ ap (λ (b : Bool). not b && is_mounted h t) hit in
        let same : tape_of_mount h m ≡ t = sym (eqb-true t (tape_of_mount h m) hit) in
        subst (λ (b : Bool). IsPlaceOf (e ∷ h) t b (Some x)) (sym off) (subst (λ (n : ℕ). IsMediumOf (e ∷ h) n x) same (record { label = true_now.label; truth = told x.records true_now.truth }))
    by false miss =
        let same : is_mounted (e ∷ h) t ≡ is_mounted h t = end_mounts site h e m fault legal ek t ∙ ap (λ (b : Bool). not b && is_mounted h t) miss in
        place_kept site h e t (shelf t) legal same (is t low)
