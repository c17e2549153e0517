-- The laws of a valid site.
use Rattle.std.proofs.Common.{◌≡◌, ◌<◌, ℕ, zero, suc, List, [], ◌∷◌, true, false, Some, refl, arith, length, get_or, ◌∙◌, ap, map}
use Rattle.std.proofs.lemmas.Option.{get_or_from_slice_get}
use Rattle.std.proofs.lemmas.List.Quantifiers.{position-Some}
use Rattle.std.proofs.lemmas.Slice.Eq.{bytes_eq-Decides}
use Rattle.std.specs.Prelude.{bytes_eq, slice_get, IsTrue}
use Rattle.std.specs.List.{AllByRecursion}
use Rattle.cta_site.specs.declared.site.Site.{Site}
use Rattle.cta_site.specs.declared.site.Drive.{Drive}
use Rattle.cta_site.specs.declared.site.Tape.{Tape}
use Rattle.cta_site.specs.Names.{IsName, is_name_byte}
use Rattle.cta_site.specs.WellFormed.{IsWellFormed}
use Rattle.cta_site.specs.Lookups.{place_by}
use Rattle.cta_site.specs.Laws.{DrivesAreNamed, DrivesAreFound, TapesAreNamed, TapesAreFound}
use Rattle.cta_site.specs.Bytes.{Without}
use Rattle.cta_site.proofs.Places.{place_of_name}

-- an item of a list, where there is one at this place
pub item_at : {A : Type 0} (xs : List A) (i : ℕ) → i < length xs → (x : A) × (slice_get xs i ≡ Some x)
item_at [] i low = absurd (omega arith)
item_at (x ∷ xs) zero low = (x, refl)
item_at (x ∷ xs) (suc i) low = item_at xs i (omega arith)

named_at : {A : Type 0} (name : A → List ℕ) (xs : List A) (i : ℕ) (x : A) → AllByRecursion IsName (map name xs) → slice_get xs i ≡ Some x → IsName (name x)
named_at name [] i x all e = absurd (cc)
named_at name (y ∷ ys) zero x all e = let same : y ≡ x = cc in rw same at all.0
named_at name (y ∷ ys) (suc i) x all e = named_at name ys i x all.1 e

-- a place that a name is found at is in the list, and the item there has the name
pub found_low : {A : Type 0} (name : A → List ℕ) (xs : List A) (key : List ℕ) (i : ℕ) → place_by name xs key ≡ Some i → i < length xs
found_low name [] key i e = absurd (cc)
found_low name (x ∷ xs) key i e = (position-Some (λ y. bytes_eq (name y) key) (x ∷ xs) i x e).0

found_name : {A : Type 0} (name : A → List ℕ) (xs : List A) (key : List ℕ) (i : ℕ) (x : A) → place_by name xs key ≡ Some i → slice_get xs i ≡ Some x → name x ≡ key
found_name name xs key i x e f =
    let here : get_or xs i x ≡ x = get_or_from_slice_get xs i x x f in
    let hit : bytes_eq (name (get_or xs i x)) key ≡ true = (position-Some (λ y. bytes_eq (name y) key) xs i x e).1 in
    (bytes_eq-Decides (name x) key).0 (rw here at hit)

pub drives_are_named : (site : Site) → IsWellFormed site → DrivesAreNamed site
drives_are_named site valid = λ drive low.
    let d = item_at site.drives.items drive low in
    (rw d.1 (named_at (λ (x : Drive). x.name) site.drives.items drive d.0 valid.names.drives d.1), rw d.1 (place_of_name (λ (x : Drive). x.name) site.drives.items drive d.0 valid.numbered.drives d.1))

pub drives_are_found : (site : Site) → DrivesAreFound site
drives_are_found site = λ name drive e.
    let low = (found_low (λ (x : Drive). x.name) site.drives.items name drive e) in
    let d = item_at site.drives.items drive low in
    (low, rw d.1 (found_name (λ (x : Drive). x.name) site.drives.items name drive d.0 e d.1))

pub tapes_are_named : (site : Site) → IsWellFormed site → TapesAreNamed site
tapes_are_named site valid = λ tape low.
    let d = item_at site.tapes.items tape low in
    (rw d.1 (named_at (λ (x : Tape). x.vid) site.tapes.items tape d.0 valid.names.tapes d.1), rw d.1 (place_of_name (λ (x : Tape). x.vid) site.tapes.items tape d.0 valid.numbered.tapes d.1))

pub tapes_are_found : (site : Site) → TapesAreFound site
tapes_are_found site = λ vid tape e.
    let low = (found_low (λ (x : Tape). x.vid) site.tapes.items vid tape e) in
    let d = item_at site.tapes.items tape low in
    (low, rw d.1 (found_name (λ (x : Tape). x.vid) site.tapes.items vid tape d.0 e d.1))

-- a name has no byte that a name can't have
pub no_such_byte : (c : ℕ) (name : List ℕ) → is_name_byte c ≡ false → IsName name → Without c name
no_such_byte c name outside form = none_in c name outside form.bytes
  where
    none_in : (c : ℕ) (bytes : List ℕ) → is_name_byte c ≡ false → AllByRecursion (λ b. IsTrue (is_name_byte b)) bytes → Without c bytes
    none_in c [] outside all = tt
    none_in c (b ∷ bytes) outside all = ((λ e. let same : is_name_byte b ≡ false = ap is_name_byte e ∙ outside in absurd (cc)), none_in c bytes outside all.1)
