-- Places of the elements that break a rule.
use Rattle.std.specs.Prelude.{ℕ, length, List, [], ◌∷◌, ◌++◌, Option, Some, None, Bool, true, false, if◌then◌else◌, ◌&&◌, nat_le, not, bytes_eq, option_map}
use Rattle.std.specs.List.{position, list_any}

-- a number is in a range, both ends included
abbrev pub is_within : ℕ → ℕ → ℕ → Bool
is_within low high n = nat_le low n && nat_le n high

-- a rule that speaks of no element breaks at 0
abbrev pub unless : Bool → Option ℕ
unless true = None
unless false = Some 0

-- the place of the first element that fails a test
abbrev pub first_failing : {A : Type 0} → (A → Bool) → List A → Option ℕ
first_failing test xs = position (λ x. not (test x)) xs

-- the place of the first of these that is the same as one before it, after some that were seen
abbrev pub repeat_after : {A : Type 0} → (A → A → Bool) → List A → List A → Option ℕ
repeat_after same seen [] = None
repeat_after same seen (x ∷ xs) = if list_any (same x) seen then Some (length seen) else repeat_after same (seen ++ x ∷ []) xs

-- the place of the first that is the same as one before it: the later of the first two that are the same
abbrev pub first_same : {A : Type 0} → (A → A → Bool) → List A → Option ℕ
first_same same xs = repeat_after same [] xs

-- the place of the first name that one before it equals
abbrev pub first_repeat : List (List ℕ) → Option ℕ
first_repeat names = first_same bytes_eq names

-- a name is one of these
abbrev pub is_among : List (List ℕ) → List ℕ → Bool
is_among names name = list_any (bytes_eq name) names

-- a rule and the item that breaks it, where one does
abbrev pub fault : ℕ → Option ℕ → Option (ℕ × ℕ)
fault rule item = option_map (λ i. (rule, i)) item
