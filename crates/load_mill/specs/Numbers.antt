-- The numbers from which a mill's files are made.
use Rattle.std.specs.Prelude.{ℕ, zero, suc, ◌+◌, ◌*◌, ◌^◌, ◌/◌, ◌%◌, List, map}
use Rattle.std.specs.List.{range_with_len}

-- the number that comes after this one: a step of a linear congruential generator
abbrev pub number_after : ℕ → ℕ
number_after x = (x * 6364136223846793005 + 1442695040888963407) % 2 ^ 64

-- the number after so many steps from this one
abbrev pub number_behind : ℕ → ℕ → ℕ
number_behind x zero = x
number_behind x (suc n) = number_after (number_behind x n)

-- the number of the file of this index, counted from 0: the first file has the number after the seed
abbrev pub number_of : ℕ → ℕ → ℕ
number_of seed k = number_after (number_behind seed k)

-- the length of the file of this number, 1 to 4096 bytes: from the twelve bits above the lowest forty
abbrev pub length_by : ℕ → ℕ
length_by x = 1 + (x / 2 ^ 40) % 4096

-- the first n bytes of the file of this number: byte j, from 0, is the number and j, modulo 256
abbrev pub bytes_by : ℕ → ℕ → List ℕ
bytes_by x n = map (λ j. (x + j) % 256) (range_with_len 0 n)
