-- The names of a site's drives.
use Rattle.std.proofs.Common.{◌≡◌, ◌≢◌, ℕ, zero, suc, ◌+◌, ◌<◌, ◌≤◌, Bool, true, false, cond, List, [], ◌∷◌, length, map, get_or, Option, None, Some, refl, sym, ap, ◌∙◌, subst, arith, bytes_eq, MatchOption}
use Rattle.std.specs.Prelude.{IsTrue}
use Rattle.std.specs.List.{AllByRecursion, position_from}
use Rattle.std.proofs.lemmas.List.Quantifiers.{position-Some}
use Rattle.std.proofs.lemmas.Iterator.Adapters.{position_from-zero}
use Rattle.std.proofs.lemmas.List.{get_or-map}
use Rattle.std.proofs.lemmas.Slice.Eq.{bytes_eq-Decides}
use Rattle.std.specs.List.Sorted.{IsStrictlySortedBy}
use Rattle.std.specs.declared.cmp.Ordering.TheVariants.{Less}
use Rattle.std.specs.Ordering.{nat_cmp}
use Rattle.std.specs.Cmp.Lexicographic.{slice_cmp, nat_list_cmp_total}
use Rattle.cta_site.specs.declared.site.Site.{Site}
use Rattle.cta_site.specs.declared.site.Drive.{Drive}
use Rattle.cta_site.specs.Lookups.{place_by}
use Rattle.cta_site.specs.Names.{IsName, AreAscending, is_name_byte}
use Rattle.cta_site.specs.Names.{drive_names}
use Rattle.cta_site.specs.WellFormed.{IsWellFormed}
use Rattle.cta_site.specs.Bytes.{Without}
use Rattle.replay.specs.Line.{drive_name}

holds_at : {X : Type 0} (P : X → Type 0) (xs : List X) (i : ℕ) (d : X) → AllByRecursion P xs → i < length xs → P (get_or xs i d)
holds_at P [] i d p h = absurd (omega arith)
holds_at P (x ∷ xs) zero d p h = p.0
holds_at P (x ∷ xs) (suc i) d p h = holds_at P xs i d p.1 (omega arith)

abbrev name_of : Drive → List ℕ
name_of d = d.name

abbrev is_named : List ℕ → Drive → Bool
is_named name d = bytes_eq (name_of d) name

none_from : (i : ℕ) (ds : List Drive) (name : List ℕ) → position_from (is_named name) i ds ≡ None → (k : ℕ) → k < length ds → get_or (map name_of ds) k [] ≡ name → ⊥
none_from i [] name e k h same = absurd (omega arith)
none_from i (d ∷ ds) name e k h same = by_head (is_named name d) refl e (none_from (i + 1) ds name) k h same
  where
    by_head : (b : Bool) → b ≡ is_named name d → cond b (Some i) (position_from (is_named name) (i + 1) ds) ≡ None
        → (position_from (is_named name) (i + 1) ds ≡ None → (k : ℕ) → k < length ds → get_or (map name_of ds) k [] ≡ name → ⊥) → (k : ℕ) → k < length (d ∷ ds) → get_or (map name_of (d ∷ ds)) k [] ≡ name → ⊥
    by_head true t e later k h same = cc
    by_head false t e later zero h same = let yes : bytes_eq (name_of d) name ≡ true = (bytes_eq-Decides (name_of d) name).1 same in cc
    by_head false t e later (suc k) h same = later e k (omega arith) same

-- what a look-up by name says
found : (ds : List Drive) (name : List ℕ) (o : Option ℕ) → o ≡ place_by name_of ds name
    → MatchOption o ((k : ℕ) → k < length ds → get_or (map name_of ds) k [] ≢ name) (λ k. (k < length ds) × (get_or (map name_of ds) k [] ≡ name))
found ds name None e = none_from 0 ds name (sym (e ∙ position_from-zero (is_named name) ds))
found ds name (Some k) e =
    let d : Drive = record { name = []; library = [] } in
    let p = position-Some (is_named name) ds k d (sym e) in
    let same : name_of (get_or ds k d) ≡ name = (bytes_eq-Decides (name_of (get_or ds k d)) name).0 p.1 in
    (p.0, get_or-map name_of ds k d [] p.0 ∙ same)

pub drive_found : (site : Site) (name : List ℕ) (o : Option ℕ) → o ≡ place_by name_of site.drives.items name
    → MatchOption o ((k : ℕ) → k < length site.drives.items → drive_name site k ≢ name) (λ k. (k < length site.drives.items) × (drive_name site k ≡ name))
drive_found site name o e = found site.drives.items name o e

plain_byte : (c b : ℕ) → is_name_byte c ≡ false → IsTrue (is_name_byte b) → b ≡ c → ⊥
plain_byte c b other h e = let same : is_name_byte b ≡ is_name_byte c = ap is_name_byte e in cc

plain_bytes : (c : ℕ) (bs : List ℕ) → is_name_byte c ≡ false → AllByRecursion (λ b. IsTrue (is_name_byte b)) bs → Without c bs
plain_bytes c [] other p = tt
plain_bytes c (b ∷ bs) other p = (plain_byte c b other p.0, plain_bytes c bs other p.1)

length-names : (ds : List Drive) → length (map name_of ds) ≡ length ds
length-names [] = refl
length-names (d ∷ ds) = ap suc (length-names ds)

-- the name of a drive of a valid site has no byte that is none of a name's
pub Without-drive : (c : ℕ) (site : Site) (drive : ℕ) → is_name_byte c ≡ false → IsWellFormed site → drive < length site.drives.items → Without c (drive_name site drive)
Without-drive c site drive other valid h =
    let name : IsName (drive_name site drive) = holds_at IsName (drive_names site) drive [] valid.names.drives (omega (arith, length-names site.drives.items)) in
    plain_bytes c (drive_name site drive) other name.bytes

-- it is short
pub length-drive : (site : Site) (drive : ℕ) → IsWellFormed site → drive < length site.drives.items → length (drive_name site drive) ≤ 64
length-drive site drive valid h =
    let name : IsName (drive_name site drive) = holds_at IsName (drive_names site) drive [] valid.names.drives (omega (arith, length-names site.drives.items)) in
    name.at_most

-- no two names that ascend are equal
never_below_itself : (a : List ℕ) → slice_cmp nat_cmp a a ≡ Less → ⊥
never_below_itself a e = let turned = nat_list_cmp_total.antisymm a a in cc

names_apart : (names : List (List ℕ)) (i j : ℕ) → AreAscending names → i < length names → j < length names → get_or names i [] ≡ get_or names j [] → i ≡ j
unfolding IsStrictlySortedBy
names_apart [] i j up h k e = absurd (omega arith)
names_apart (n ∷ names) zero zero up h k e = refl
names_apart (n ∷ names) zero (suc j) up h k e =
    let below : slice_cmp nat_cmp n (get_or names j []) ≡ Less = holds_at (λ m. slice_cmp nat_cmp n m ≡ Less) names j [] up.0 (omega arith) in
    absurd (never_below_itself n (subst (λ m. slice_cmp nat_cmp n m ≡ Less) (sym e) below))
names_apart (n ∷ names) (suc i) zero up h k e =
    let below : slice_cmp nat_cmp n (get_or names i []) ≡ Less = holds_at (λ m. slice_cmp nat_cmp n m ≡ Less) names i [] up.0 (omega arith) in
    absurd (never_below_itself n (subst (λ m. slice_cmp nat_cmp n m ≡ Less) e below))
names_apart (n ∷ names) (suc i) (suc j) up h k e = ap suc (names_apart names i j up.1 (omega arith) (omega arith) e)

-- the drives of a valid site differ in their names
pub same_drive : (site : Site) (i j : ℕ) → IsWellFormed site → i < length site.drives.items → j < length site.drives.items → drive_name site i ≡ drive_name site j → i ≡ j
same_drive site i j valid h k e =
    let n = length-names site.drives.items in
    names_apart (drive_names site) i j valid.numbered.drives (omega arith) (omega arith) e
