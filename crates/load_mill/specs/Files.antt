-- The files of a mill.
use Rattle.std.specs.Prelude.{ℕ, ◌/◌, ◌+◌, ◌%◌, List, [], ◌∷◌, ◌++◌, codes}
use Rattle.load_mill.specs.Numbers.{number_of, length_by, bytes_by}

-- the length of the file of this index
abbrev pub file_len : ℕ → ℕ → ℕ
file_len seed k = length_by (number_of seed k)

-- its bytes
abbrev pub file_bytes : ℕ → ℕ → List ℕ
file_bytes seed k = bytes_by (number_of seed k) (file_len seed k)

-- the last decimal digit of a number, as a byte
abbrev pub digit : ℕ → ℕ
digit n = 48 + n % 10

-- the last six decimal digits of a number
abbrev pub six_digits : ℕ → List ℕ
six_digits k = digit (k / 100000) ∷ digit (k / 10000) ∷ digit (k / 1000) ∷ digit (k / 100) ∷ digit (k / 10) ∷ digit k ∷ []

-- the path of the file of this index
abbrev pub file_path : ℕ → List ℕ
file_path k = codes "/mill/f" ++ six_digits k

-- the path of the file that fills the buffer, for which all others are evicted
abbrev pub big_path : List ℕ
big_path = codes "/mill/x"
