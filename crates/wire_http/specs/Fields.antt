-- What the fields of a head say, from their names and values.
use Rattle.std.specs.Prelude.{ℕ, Bool, ◌&&◌, List, [], ◌∷◌, length, if◌then◌else◌, nat_lt, nat_le, codes}
use Rattle.std.specs.List.{list_all}
use Rattle.std.specs.Char.{is_ascii_digit}
use Rattle.std.specs.Str.{str_eq_ignore_ascii_case}
use Rattle.std.specs.Str.Parse.{digits_value}

-- a field is its name and its value, without the blanks around the value
abbrev pub Pair : Type 0
Pair = List ℕ × List ℕ

-- a text is that word, in any letter case
unfoldable pub is_word : List ℕ → List ℕ → Bool
is_word word text = str_eq_ignore_ascii_case text word

-- the values of all fields of that name, in order
abbrev pub values : List ℕ → List Pair → List (List ℕ)
values name [] = []
values name (f ∷ fs) = if is_word name f.0 then f.1 ∷ values name fs else values name fs

-- the first of these values, or the empty text
abbrev pub first_of : List (List ℕ) → List ℕ
first_of [] = []
first_of (v ∷ vs) = v

-- a text is a length if it is 1 to 19 digits
unfoldable pub is_length : List ℕ → Bool
is_length text = nat_lt 0 (length text) && (nat_le (length text) 19 && list_all is_ascii_digit text)

-- the stated lengths are the values of Content-Length
abbrev pub lengths : List Pair → List (List ℕ)
lengths fs = values (codes "content-length") fs

-- the codings are the values of Transfer-Encoding
abbrev pub codings : List Pair → List (List ℕ)
codings fs = values (codes "transfer-encoding") fs

-- the number that the first of these values writes, 0 where there is none
abbrev pub number : List (List ℕ) → ℕ
number [] = 0
number (x ∷ xs) = digits_value 10 x
