-- Members of JSON objects, as a site file has them.
use Rattle.std.specs.Prelude.{ℕ, List, [], ◌∷◌, length, Bool, false, not, nat_le, Option, Some, None, is_some, option_map, option_and_then, unwrap_or}
use Rattle.serde_json.specs.Data.{Data, Items, no_items, item}
use Rattle.serde_json.specs.Find.{get, as_str, as_number, as_u64, as_array}
use Rattle.cta_site.specs.Items.{is_within}
use Rattle.cta_site.specs.Forms.{is_name}

-- the elements of an array, in their order
abbrev pub elements : Items → List Data
elements no_items = []
elements (item d ds) = d ∷ elements ds

-- a test of what may be absent: it fails where there is none
abbrev pub passes : {A : Type 0} → (A → Bool) → Option A → Bool
passes test None = false
passes test (Some x) = test x

-- the text that a member is, where it is one
unfoldable pub text_at : List ℕ → Data → Option (List ℕ)
text_at name d = option_and_then as_str (get name d)

-- the number that a member is, where it is a JSON integer from 0 to 2^64 - 1
unfoldable pub number_at : List ℕ → Data → Option ℕ
number_at name d = option_and_then as_u64 (option_and_then as_number (get name d))

-- the list that a member is, where it is one
unfoldable pub list_at : List ℕ → Data → Option (List Data)
list_at name d = option_map elements (option_and_then as_array (get name d))

-- a member is a text
unfoldable pub is_text : List ℕ → Data → Bool
is_text name d = is_some (text_at name d)

-- a member is a text of this many bytes, both ends included
unfoldable pub has_text : ℕ → ℕ → List ℕ → Data → Bool
has_text low high name d = passes (λ t. is_within low high (length t)) (text_at name d)

-- a member is a text that has the form of a name
unfoldable pub has_name : List ℕ → Data → Bool
has_name name d = passes is_name (text_at name d)

-- a member is a number in this range, both ends included
unfoldable pub has_number : ℕ → ℕ → List ℕ → Data → Bool
has_number low high name d = passes (is_within low high) (number_at name d)

-- a member is a list of at most this many elements
unfoldable pub has_list : ℕ → List ℕ → Data → Bool
has_list most name d = passes (λ l. nat_le (length l) most) (list_at name d)

-- a member is absent
unfoldable pub is_absent : List ℕ → Data → Bool
is_absent name d = not (is_some (get name d))

-- a member's text, empty where it is none
unfoldable pub text : List ℕ → Data → List ℕ
text name d = unwrap_or (text_at name d) []

-- a member's number, 0 where it is none
unfoldable pub number : List ℕ → Data → ℕ
number name d = unwrap_or (number_at name d) 0

-- a member's list, empty where it is none
unfoldable pub list : List ℕ → Data → List Data
list name d = unwrap_or (list_at name d) []
