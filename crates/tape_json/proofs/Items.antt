-- Lists that are read item by item, and bodies that are read.
use Rattle.std.proofs.Common.{◌≡◌, ℕ, zero, suc, ◌+◌, ◌<◌, Bool, true, false, cond, ◌&&◌, List, [], ◌∷◌, ◌++◌, length, get_or, take, map, Option, Some, None, option_map, option_and_then, Ok, Err, refl, sym, ap, ◌∙◌, add-one, arith}
use Rattle.std.specs.List.{list_all}
use Rattle.std.specs.Str.{IsUtf8, is_utf8}
use Rattle.std.proofs.lemmas.Str.{is_utf8-from_IsUtf8, IsUtf8-from_is_utf8}
use Rattle.serde_json.specs.Data.{Data}
use Rattle.serde_json.specs.Read.{read}
use Rattle.serde_json.specs.View.{view, items_of}
use Rattle.serde_json.specs.declared.value.Value.{Value}
use Rattle.tape_json.specs.Bodies.{body_data, item_list, all_read, filled, has_path, wanted_of, files_wanted}
use Rattle.tape_json.specs.declared.body.BodyError.TheVariants.{BadBody, BadLifetime, EmptyList}
use Rattle.tape_json.specs.declared.body.BodyError.{BodyError}

-- the items of the array that a list makes are that list
pub item_list-items_of : (ds : List Data) → item_list (items_of ds) ≡ ds
item_list-items_of [] = refl
item_list-items_of (d ∷ ds) = ap (λ xs. d ∷ xs) (item_list-items_of ds)

-- a body that is text has the value that it is read as
pub body_data-text : (bytes : List ℕ) → IsUtf8 bytes → body_data bytes ≡ read bytes
body_data-text bytes utf8 = ap (λ t. cond t (read bytes) None) (is_utf8-from_IsUtf8 bytes utf8)

body_data-by : (bytes : List ℕ) (t : Bool) → is_utf8 bytes ≡ t → (IsUtf8 bytes → read bytes ≡ None) → body_data bytes ≡ None
body_data-by bytes true e none = body_data-text bytes (IsUtf8-from_is_utf8 bytes e) ∙ none (IsUtf8-from_is_utf8 bytes e)
body_data-by bytes false e none = ap (λ t. cond t (read bytes) None) e

-- a body that is refused as text, or is none, has no value
pub body_data-none : (bytes : List ℕ) → (IsUtf8 bytes → read bytes ≡ None) → body_data bytes ≡ None
body_data-none bytes none = body_data-by bytes (is_utf8 bytes) refl none

turned : {B : Type 0} (p : Option B) (q : Option (List B)) (r : Option B)
    → option_and_then (λ y. option_map (λ ys. y ∷ ys) (option_and_then (λ ys. option_map (λ z. ys ++ z ∷ []) r) q)) p
    ≡ option_and_then (λ ys. option_map (λ z. ys ++ z ∷ []) r) (option_and_then (λ y. option_map (λ ys. y ∷ ys) q) p)
turned None q r = refl
turned (Some y) None r = refl
turned (Some y) (Some ys) None = refl
turned (Some y) (Some ys) (Some z) = refl

one_read : {B : Type 0} (r : Option B) → option_and_then (λ y. option_map (λ ys. y ∷ ys) (Some [])) r ≡ option_map (λ y. [] ++ y ∷ []) r
one_read None = refl
one_read (Some y) = refl

all_read-append_one : {A B : Type 0} (reads : A → Option B) (xs : List A) (x : A)
    → all_read reads (xs ++ x ∷ []) ≡ option_and_then (λ ys. option_map (λ y. ys ++ y ∷ []) (reads x)) (all_read reads xs)
all_read-append_one reads [] x = one_read (reads x)
all_read-append_one reads (a ∷ xs) x =
    ap (λ o. option_and_then (λ y. option_map (λ ys. y ∷ ys) o) (reads a)) (all_read-append_one reads xs x)
    ∙ turned (reads a) (all_read reads xs) (reads x)

-- one more item as it is seen
pub map-take_more : {V A : Type 0} (see : V → A) (vs : List V) (i : ℕ) (v : V) → i < length vs → v ≡ get_or vs i v → map see (take (suc i) vs) ≡ map see (take i vs) ++ see v ∷ []
map-take_more see [] i v inside is = absurd (omega arith)
map-take_more see (x ∷ vs) zero v inside is = ap (λ y. see y ∷ []) (sym is)
map-take_more see (x ∷ vs) (suc i) v inside is = ap (λ ys. see x ∷ ys) (map-take_more see vs i v (omega arith) is)

-- one more item that is read
pub all_read-more : {V A B : Type 0} (reads : A → Option B) (see : V → A) (vs : List V) (i : ℕ) (v : V) (ys : List B) (y : B) → i < length vs → v ≡ get_or vs i v
    → all_read reads (map see (take i vs)) ≡ Some ys → reads (see v) ≡ Some y → all_read reads (map see (take (i + 1) vs)) ≡ Some (ys ++ y ∷ [])
all_read-more reads see vs i v ys y inside is before here =
    ap (λ k. all_read reads (map see (take k vs))) (add-one i)
    ∙ ap (all_read reads) (map-take_more see vs i v inside is)
    ∙ all_read-append_one reads (map see (take i vs)) (see v)
    ∙ ap (λ o. option_and_then (λ zs. option_map (λ z. zs ++ z ∷ []) (reads (see v))) o) before
    ∙ ap (option_map (λ z. ys ++ z ∷ [])) here

none_after : {B : Type 0} (p : Option B) (q : Option (List B)) → q ≡ None → option_and_then (λ y. option_map (λ ys. y ∷ ys) q) p ≡ None
none_after None q e = refl
none_after (Some y) q e = ap (option_map (λ ys. y ∷ ys)) e

-- an item that is not read
pub all_read-refused : {V A B : Type 0} (reads : A → Option B) (see : V → A) (vs : List V) (i : ℕ) (v : V) → i < length vs → v ≡ get_or vs i v
    → reads (see v) ≡ None → all_read reads (map see vs) ≡ None
all_read-refused reads see [] i v inside is none = absurd (omega arith)
all_read-refused reads see (x ∷ vs) zero v inside is none =
    ap (option_and_then (λ y. option_map (λ ys. y ∷ ys) (all_read reads (map see vs)))) (ap (λ w. reads (see w)) (sym is) ∙ none)
all_read-refused reads see (x ∷ vs) (suc i) v inside is none =
    none_after (reads (see x)) _ (all_read-refused reads see vs i v (omega arith) is none)

-- a test of what is seen of each element
pub list_all-map : {V A : Type 0} (p : A → Bool) (see : V → A) (vs : List V) → list_all p (map see vs) ≡ list_all (λ v. p (see v)) vs
list_all-map p see [] = refl
list_all-map p see (v ∷ vs) = ap (λ t. p (see v) && t) (list_all-map p see vs)

-- a list of files of which one has no path
pub files_wanted-no_path : (files : List Value) → list_all (λ f. has_path (view f)) files ≡ false → files_wanted (Some (map view files)) ≡ Err BadBody
files_wanted-no_path files e = ap (λ t. cond t (filled BadLifetime (all_read wanted_of (map view files))) (Err BadBody)) (list_all-map has_path view files ∙ e)

-- a list of files that have their paths
pub files_wanted-paths : (files : List Value) → list_all (λ f. has_path (view f)) files ≡ true → files_wanted (Some (map view files)) ≡ filled BadLifetime (all_read wanted_of (map view files))
files_wanted-paths files e = ap (λ t. cond t (filled BadLifetime (all_read wanted_of (map view files))) (Err BadBody)) (list_all-map has_path view files ∙ e)

-- a list with items
pub filled-items : {A : Type 0} (fault : BodyError) (xs : List A) → 0 < length xs → filled fault (Some xs) ≡ Ok xs
filled-items fault [] some = absurd (omega arith)
filled-items fault (x ∷ xs) some = refl

-- a list with none
pub filled-empty : {A : Type 0} (fault : BodyError) (xs : List A) → length xs ≡ 0 → filled fault (Some xs) ≡ Err EmptyList
filled-empty fault [] none = refl
filled-empty fault (x ∷ xs) none = absurd (omega arith)
