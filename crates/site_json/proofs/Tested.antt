-- What members are that have been tested.
use Rattle.std.proofs.Common.{◌≡◌, ◌≤◌, ℕ, List, [], Bool, true, Option, Some, None, length}
use Rattle.std.proofs.lemmas.Bool.{and_parts, leb-true}
use Rattle.std.specs.Prelude.{unwrap_or}
use Rattle.serde_json.specs.Data.{Data}
use Rattle.cta_site.specs.Items.{is_within}
use Rattle.cta_site.specs.Forms.{is_name}
use Rattle.site_json.specs.Members.{passes, text_at, number_at, has_text, has_name, has_number, text, number}

pub passed : {A : Type 0} (test : A → Bool) (o : Option A) (d : A) → passes test o ≡ true → test (unwrap_or o d) ≡ true
passed test None d e = absurd (cc)
passed test (Some x) d e = e

-- a number that was found in a range is in it
pub in_range : (low high : ℕ) (name : List ℕ) (d : Data) → has_number low high name d ≡ true → is_within low high (number name d) ≡ true
unfolding has_number number
in_range low high name d e = passed (is_within low high) (number_at name d) 0 e

pub at_most : (low high : ℕ) (name : List ℕ) (d : Data) → has_number low high name d ≡ true → number name d ≤ high
at_most low high name d e = leb-true _ _ (and_parts _ _ (in_range low high name d e)).1

-- a text that was found to be of a length or of a form is so
pub text_in_range : (low high : ℕ) (name : List ℕ) (d : Data) → has_text low high name d ≡ true → is_within low high (length (text name d)) ≡ true
unfolding has_text text
text_in_range low high name d e = passed (λ t. is_within low high (length t)) (text_at name d) [] e

pub text_is_name : (name : List ℕ) (d : Data) → has_name name d ≡ true → is_name (text name d) ≡ true
unfolding has_name text
text_is_name name d e = passed is_name (text_at name d) [] e
