-- For private clauses: what a writer of tokens has written, and that it is read as the same value.
use Rattle.std.specs.Prelude.{◌≡◌, ◌≤◌, ℕ, List, [], ◌∷◌, ◌++◌, Option, Some, None, OnOk, Result}
use Rattle.json.specs.Token.{Token, key}
use Rattle.json.specs.Tree.{json_tokens}
use Rattle.json.specs.Written.{Written}
use Rattle.serde_json.specs.Data.{Data, depth}
use Rattle.serde_json.specs.Read.{of_json}
use Rattle.serde_json.specs.Written.{outline}

-- the tokens of a value
abbrev pub value_tokens : Data → List Token
value_tokens d = json_tokens (outline d)

-- the tokens of a member, none where it has no value
abbrev pub shown : List ℕ → Option Data → List Token
shown name None = []
shown name (Some value) = key name ∷ value_tokens value

-- the value nests at most so deep, and its tokens are read as it
pub record IsReadable (levels : ℕ) (d : Data) : Type 0 where
  pub value : of_json (outline d) ≡ Some d
  pub nests : depth d ≤ levels

-- these tokens were appended, and what stood before stays
pub record Appends {E : Type 0} (r : Result (Unit {0}) E) (old new : Written) (ts : List Token) : Type 0 where
  pub before : new.before ≡ old.before
  pub tokens : OnOk r (new.tokens ≡ old.tokens ++ ts)
