-- The hash of numbers.
use Rattle.std.specs.Prelude.{ℕ, ◌+◌, ◌*◌, ◌/◌, ◌%◌, ◌^◌, ◌==◌, List, [], ◌∷◌, length, if◌then◌else◌}
use Rattle.number_map.specs.declared.hasher.NumberHasher.{NumberHasher}

-- the number that bytes spell, the lowest first; of more than four the first four, and of fewer the first
abbrev pub number_of : List ℕ → ℕ
number_of [] = 0
number_of (a ∷ []) = a
number_of (a ∷ b ∷ []) = a
number_of (a ∷ b ∷ c ∷ []) = a
number_of (a ∷ b ∷ c ∷ d ∷ _) = a + 2 ^ 8 * (b + 2 ^ 8 * (c + 2 ^ 8 * d))

-- before any number
abbrev pub unfed : NumberHasher
unfed = record { sum = 0 }

-- with one number more: a number of 32 bits comes to twice what was there, and any other by the golden ratio of 2^32
abbrev pub fed : NumberHasher → List ℕ → NumberHasher
fed h bytes = record {
  sum =
      if length bytes == 4 then (h.sum * 2 % 2 ^ 32 + number_of bytes) % 2 ^ 32
      else (h.sum + number_of bytes * 2654435761 % 2 ^ 32) % 2 ^ 32;
}

-- the lowest 24 bits tell the group, and the eight bits above tell its keys apart
abbrev pub told : NumberHasher → ℕ
told h = h.sum % 2 ^ 24 + h.sum * 2654435761 % 2 ^ 32 / 2 ^ 24 * 2 ^ 24
