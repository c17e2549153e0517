-- Lists of values: their tokens, and that they are read.
use Rattle.std.proofs.Common.{◌≡◌, ◌≤◌, ℕ, suc, ◌+◌, ◌<◌, List, [], ◌∷◌, ◌++◌, length, get_or, take, map, Some, option_map, option_and_then, refl, sym, ap, ◌∙◌, add-one, arith, append_assoc, append-nil}
use Rattle.json.specs.Token.{Token, end_array}
use Rattle.json.specs.Tree.{items_tokens}
use Rattle.serde_json.specs.Data.{Data, array, item, items_depth}
use Rattle.serde_json.specs.Read.{of_items}
use Rattle.serde_json.specs.View.{items_of}
use Rattle.serde_json.specs.Written.{items_outline}
use Rattle.tape_json.specs.Shown.{value_tokens, IsReadable}
use Rattle.tape_json.proofs.Items.{map-take_more}

-- the tokens of these values one after another
abbrev pub row_tokens : List Data → List Token
row_tokens [] = []
row_tokens (d ∷ ds) = value_tokens d ++ row_tokens ds

-- each of these values is read
abbrev pub AreReadable : ℕ → List Data → Type 0
AreReadable n [] = Unit {0}
AreReadable n (d ∷ ds) = IsReadable n d × AreReadable n ds

row_tokens-append_one : (ds : List Data) (d : Data) → row_tokens (ds ++ d ∷ []) ≡ row_tokens ds ++ value_tokens d
row_tokens-append_one [] d = append-nil (value_tokens d)
row_tokens-append_one (e ∷ ds) d = ap (λ ts. value_tokens e ++ ts) (row_tokens-append_one ds d) ∙ sym (append_assoc (value_tokens e) (row_tokens ds) (value_tokens d))

AreReadable-append_one : (n : ℕ) (ds : List Data) (d : Data) → AreReadable n ds → IsReadable n d → AreReadable n (ds ++ d ∷ [])
AreReadable-append_one n [] d before here = (here, tt)
AreReadable-append_one n (e ∷ ds) d before here = (before.0, AreReadable-append_one n ds d before.1 here)

-- one more value
pub row_tokens-more : {V : Type 0} (report : V → Data) (vs : List V) (i : ℕ) (v : V) → i < length vs → v ≡ get_or vs i v
    → row_tokens (map report (take (i + 1) vs)) ≡ row_tokens (map report (take i vs)) ++ value_tokens (report v)
row_tokens-more report vs i v inside is =
    ap (λ k. row_tokens (map report (take k vs))) (add-one i) ∙ ap row_tokens (map-take_more report vs i v inside is) ∙ row_tokens-append_one _ (report v)

pub AreReadable-more : {V : Type 0} (n : ℕ) (report : V → Data) (vs : List V) (i : ℕ) (v : V) → i < length vs → v ≡ get_or vs i v
    → AreReadable n (map report (take i vs)) → IsReadable n (report v) → AreReadable n (map report (take (i + 1) vs))
AreReadable-more n report vs i v inside is before here =
    rw (add-one i, map-take_more report vs i v inside is) (AreReadable-append_one n _ (report v) before here)

-- the tokens of an array
pub items_tokens-items_of : (ds : List Data) → items_tokens (items_outline (items_of ds)) ≡ row_tokens ds ++ end_array ∷ []
items_tokens-items_of [] = refl
items_tokens-items_of (d ∷ ds) = ap (λ ts. value_tokens d ++ ts) (items_tokens-items_of ds) ∙ sym (append_assoc (value_tokens d) (row_tokens ds) (end_array ∷ []))

of_items-items_of : (n : ℕ) (ds : List Data) → AreReadable n ds → of_items (items_outline (items_of ds)) ≡ Some (items_of ds)
of_items-items_of n [] reads = refl
of_items-items_of n (d ∷ ds) reads =
    ap (λ o. option_and_then (λ e. option_map (item e) (of_items (items_outline (items_of ds)))) o) reads.0.value
    ∙ ap (option_map (item d)) (of_items-items_of n ds reads.1)

items_depth-items_of : (n : ℕ) (ds : List Data) → AreReadable n ds → items_depth (items_of ds) ≤ n
items_depth-items_of n [] reads = omega arith
items_depth-items_of n (d ∷ ds) reads = omega (arith, reads.0.nests, items_depth-items_of n ds reads.1)

-- an array of values that are read is read
pub IsReadable-array : (n : ℕ) (ds : List Data) → AreReadable n ds → IsReadable (suc n) (array (items_of ds))
IsReadable-array n ds reads = record {
  value = ap (option_map array) (of_items-items_of n ds reads);
  nests = omega (arith, items_depth-items_of n ds reads);
}
