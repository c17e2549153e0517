-- Plans of drives, made front by front.
use Rattle.std.proofs.Common.{◌≡◌, ℕ, ◌+◌, ◌<◌, List, [], ◌∷◌, ◌++◌, Bool, true, false, refl, sym, ap, ◌∙◌, append-nil, length, map, take, get_or}
use Rattle.std.specs.Prelude.{cond, bytes_eq, filter}
use Rattle.std.proofs.lemmas.List.{map-append}
use Rattle.std.proofs.lemmas.List.Elements.{filter_more}
use Rattle.cta_site.specs.declared.site.Failure.{Failure}
use Rattle.media.specs.Made.{planned_of, planned_for}

planned_one : (b : Bool) (x : Failure) → map planned_of (cond b (x ∷ []) []) ≡ cond b (planned_of x ∷ []) []
planned_one true x = refl
planned_one false x = refl

-- the failures of a front, with one more
planned_front : (name : List ℕ) (fs : List Failure) (i : ℕ) (d : Failure) → i < length fs
    → planned_for name (take (i + 1) fs) ≡ planned_for name (take i fs) ++ cond (bytes_eq (get_or fs i d).drive name) (planned_of (get_or fs i d) ∷ []) []
planned_front name fs i d lt =
    let p : Failure → Bool = λ f. bytes_eq f.drive name in
    ap (map planned_of) (filter_more p fs i d lt) ∙ map-append planned_of (filter p (take i fs)) (cond (p (get_or fs i d)) (get_or fs i d ∷ []) [])
    ∙ ap (λ ys. planned_for name (take i fs) ++ ys) (planned_one (p (get_or fs i d)) (get_or fs i d))

-- a failure that is the drive's adds its planned call
pub planned_more : (name : List ℕ) (fs : List Failure) (i : ℕ) (d : Failure) → i < length fs → d ≡ get_or fs i d → bytes_eq d.drive name ≡ true
    → planned_for name (take (i + 1) fs) ≡ planned_for name (take i fs) ++ planned_of d ∷ []
planned_more name fs i d lt is named =
    let same : bytes_eq (get_or fs i d).drive name ≡ true = ap (λ (f : Failure). bytes_eq f.drive name) (sym is) ∙ named in
    planned_front name fs i d lt ∙ ap (λ b. planned_for name (take i fs) ++ cond b (planned_of (get_or fs i d) ∷ []) []) same
    ∙ ap (λ f. planned_for name (take i fs) ++ planned_of f ∷ []) (sym is)

-- any other adds none
pub planned_same : (name : List ℕ) (fs : List Failure) (i : ℕ) (d : Failure) → i < length fs → d ≡ get_or fs i d → bytes_eq d.drive name ≡ false
    → planned_for name (take (i + 1) fs) ≡ planned_for name (take i fs)
planned_same name fs i d lt is other =
    let same : bytes_eq (get_or fs i d).drive name ≡ false = ap (λ (f : Failure). bytes_eq f.drive name) (sym is) ∙ other in
    planned_front name fs i d lt ∙ ap (λ b. planned_for name (take i fs) ++ cond b (planned_of (get_or fs i d) ∷ []) []) same
    ∙ append-nil _
