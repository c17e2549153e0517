-- Contents move as the resident files do.
use Rattle.std.proofs.Common.{◌≡◌, ◌∙◌, ℕ, inl, inr, List, [], ◌∷◌, ◌++◌, Bool, true, false, ◌&&◌, ◌||◌, not, refl, sym, ap}
use Rattle.std.specs.Prelude.{Some, None, if◌then◌else◌, ◌==◌, map}
use Rattle.blob.specs.declared.sum.Sum256.{Sum256}
use Rattle.std.proofs.lemmas.Bool.{eqb-true}
use Rattle.cta_site.specs.declared.site.Site.{Site}
use Rattle.cta_model.specs.declared.entries.Entry.{Entry}
use Rattle.cta_model.specs.History.{History, has_number}
use Rattle.cta_model.specs.Files.{sum_of}
use Rattle.cta_model.specs.Buffer.{is_resident}
use Rattle.cta_model.specs.Space.{resident_files}
use Rattle.cta_model.specs.Legal.{IsLegal}
use Rattle.cta_laws.proofs.FileFrames.{sum_older}
use Rattle.cta_laws.proofs.JobFiles.{older_live, resident_parts}
use Rattle.cta_laws.proofs.Tests.{bool_cases}
use Rattle.cta_laws.proofs.WaitLists.{number_append}
use Rattle.part_model.specs.declared.space.Resident.{Resident}
use Rattle.part_model.specs.Held.{flagged, numbers, without}
use Rattle.part_laws.specs.Buffer.{entering, leaving, resident_at, residents, touches}
use Rattle.part_laws.proofs.Residents.{residents_are}
use Rattle.part_laws.proofs.Told.{among_is, numbers_are}
use Rattle.part_laws.specs.Contents.{ContentsMove, ContentsStartEmpty}

-- ---- the files of a list

flagged_same : (touched safe : ℕ → Bool) (rs : List Resident) → numbers (flagged touched safe rs) ≡ numbers rs
flagged_same touched safe [] = refl
flagged_same touched safe (r ∷ rs) =
    ap (λ (ns : List ℕ). (if touched r.file then record r { safe = safe r.file } else r).file ∷ ns) (flagged_same touched safe rs) ∙ ap (λ (n : ℕ). n ∷ numbers rs) (by (touched r.file))
  where
    by : (b : Bool) → (if b then record r { safe = safe r.file } else r).file ≡ r.file
    by true = refl
    by false = refl

-- a file is among those that are left where it is among all and is not gone
left_has : (f : ℕ) (gone : List ℕ) (rs : List Resident) → has_number f (numbers (without gone rs)) ≡ (has_number f (numbers rs) && not (has_number f gone))
left_has f gone [] = refl
left_has f gone (r ∷ rs) =
    elim (bool_cases (has_number r.file gone)) [
      | inl out ↦ rw out (left_has f gone rs ∙ sym (more_out (f == r.file) (has_number f (numbers rs)) (has_number f gone) (λ hit. ap (λ (n : ℕ). has_number n gone) (eqb-true f r.file hit) ∙ out)))
      | inr stays ↦ rw stays (ap (λ (b : Bool). (f == r.file) || b) (left_has f gone rs) ∙ more_in (f == r.file) (has_number f (numbers rs)) (has_number f gone) (λ hit. ap (λ (n : ℕ). has_number n gone) (eqb-true f r.file hit) ∙ stays))
    ]
  where
    more_out : (here rest gone : Bool) → (here ≡ true → gone ≡ true) → ((here || rest) && not gone) ≡ (rest && not gone)
    more_out false rest gone is = refl
    more_out true rest gone is = (let out : gone ≡ true = is refl in rw out (none rest))
      where
        none : (b : Bool) → ((true || b) && not true) ≡ (b && not true)
        none true = refl
        none false = refl

    more_in : (here rest gone : Bool) → (here ≡ true → gone ≡ false) → (here || (rest && not gone)) ≡ ((here || rest) && not gone)
    more_in false rest gone is = refl
    more_in true rest gone is = (let stays : gone ≡ false = is refl in rw stays refl)

-- ---- one more entry

resident_has : (site : Site) (h : History) (f : ℕ) → has_number f (numbers (residents site h)) ≡ is_resident h f
resident_has site h f = ap (has_number f) (numbers_are site h (resident_files h)) ∙ among_is h f

numbers_both : (xs ys : List Resident) → numbers (xs ++ ys) ≡ numbers xs ++ numbers ys
numbers_both [] ys = refl
numbers_both (x ∷ xs) ys = ap (λ (ns : List ℕ). x.file ∷ ns) (numbers_both xs ys)

resident_moves : (site : Site) (h : History) (e : Entry) (f : ℕ) → IsLegal site (e ∷ h)
    → is_resident (e ∷ h) f ≡ ((is_resident h f && not (has_number f (leaving h e.ask e.answer))) || has_number f (entering h e.ask e.answer))
resident_moves site h e f legal =
    sym (resident_has site (e ∷ h) f)
    ∙ ap (λ (rs : List Resident). has_number f (numbers rs)) (residents_are site h e legal)
    ∙ ap (has_number f) (numbers_both (flagged (touches site h e.ask e.answer) _ (without (leaving h e.ask e.answer) (residents site h))) (map (resident_at site (e ∷ h)) (entering h e.ask e.answer)))
    ∙ number_append f (numbers (flagged (touches site h e.ask e.answer) _ (without (leaving h e.ask e.answer) (residents site h)))) (numbers (map (resident_at site (e ∷ h)) (entering h e.ask e.answer)))
    ∙ ap (λ (ns : List ℕ). has_number f ns || has_number f (numbers (map (resident_at site (e ∷ h)) (entering h e.ask e.answer)))) (flagged_same (touches site h e.ask e.answer) _ (without (leaving h e.ask e.answer) (residents site h)))
    ∙ ap (λ (b : Bool). b || has_number f (numbers (map (resident_at site (e ∷ h)) (entering h e.ask e.answer)))) (left_has f (leaving h e.ask e.answer) (residents site h) ∙ ap (λ (b : Bool). b && not (has_number f (leaving h e.ask e.answer))) (resident_has site h f))
    ∙ ap (λ (ns : List ℕ). (is_resident h f && not (has_number f (leaving h e.ask e.answer))) || has_number f ns) (numbers_are site (e ∷ h) (entering h e.ask e.answer))

pub contents_start_empty : ContentsStartEmpty
contents_start_empty f = refl

pub contents_move : ContentsMove
contents_move site h e contents legal are f =
    elim (bool_cases (has_number f (entering h e.ask e.answer))) [
      | inl enters ↦
          (let now : is_resident (e ∷ h) f ≡ true = resident_moves site h e f legal ∙ rw enters (either (is_resident h f && not (has_number f (leaving h e.ask e.answer)))) in
          ap (λ (b : Bool). if b then Some (sum_of (e ∷ h) f) else if has_number f (leaving h e.ask e.answer) then None else contents f) enters
          ∙ sym (ap (λ (b : Bool). if b then Some (sum_of (e ∷ h) f) else None) now))
      | inr not_entering ↦
          ap (λ (b : Bool). if b then Some (sum_of (e ∷ h) f) else if has_number f (leaving h e.ask e.answer) then None else contents f) not_entering
          ∙ elim (bool_cases (has_number f (leaving h e.ask e.answer))) [
            | inl out ↦
                (let now : is_resident (e ∷ h) f ≡ false = resident_moves site h e f legal ∙ rw (not_entering, out) (gone (is_resident h f)) in
                ap (λ (b : Bool). if b then None else contents f) out ∙ sym (ap (λ (b : Bool). if b then Some (sum_of (e ∷ h) f) else None) now))
            | inr stays ↦
                (let now : is_resident (e ∷ h) f ≡ is_resident h f = resident_moves site h e f legal ∙ rw (not_entering, stays) (same (is_resident h f)) in
                ap (λ (b : Bool). if b then None else contents f) stays ∙ are f ∙ sym (ap (λ (b : Bool). if b then Some (sum_of (e ∷ h) f) else None) now ∙ kept (is_resident h f) refl))
          ]
    ]
  where
    either : (b : Bool) → (b || true) ≡ true
    either true = refl
    either false = refl

    gone : (b : Bool) → ((b && false) || false) ≡ false
    gone true = refl
    gone false = refl

    same : (b : Bool) → ((b && true) || false) ≡ b
    same true = refl
    same false = refl

    kept : (b : Bool) → is_resident h f ≡ b → (if b then Some (sum_of (e ∷ h) f) else None) ≡ (if b then Some (sum_of h f) else None)
    kept true here = ap (λ (s : Sum256). Some s) (sum_older e h f (older_live h f (resident_parts h f here).0))
    kept false here = refl
