-- Paths.
use Rattle.std.specs.Prelude.{ℕ, length, List, [], ◌∷◌, Bool, false, if◌then◌else◌, ◌==◌, ◌&&◌, not, nat_le, bytes_eq, codes}
use Rattle.std.specs.List.{list_all}

-- the parts of a text where a byte that is not a slash is put before it
abbrev pub onto_first : ℕ → List (List ℕ) → List (List ℕ)
onto_first b [] = (b ∷ []) ∷ []
onto_first b (part ∷ parts) = (b ∷ part) ∷ parts

-- the parts of a text between its slashes
abbrev pub parts_of : List ℕ → List (List ℕ)
parts_of [] = [] ∷ []
parts_of (b ∷ bs) = if b == 47 then [] ∷ parts_of bs else onto_first b (parts_of bs)

-- a part of a path is not empty, and neither `.` nor `..`
abbrev pub is_part : List ℕ → Bool
is_part part = not (bytes_eq part []) && (not (bytes_eq part (codes ".")) && not (bytes_eq part (codes "..")))

-- no byte of a path is below 0x20 or is 0x7F
abbrev pub is_path_byte : ℕ → Bool
is_path_byte b = nat_le 32 b && not (b == 127)

-- a path is a slash and parts joined by slashes, 2 to 1,024 bytes in all; that it is UTF-8 is said by its type
abbrev pub is_path : List ℕ → Bool
is_path [] = false
is_path (b ∷ bs) = b == 47 && (nat_le 1 (length bs) && (nat_le (length bs) 1023 && (list_all is_path_byte bs && list_all is_part (parts_of bs))))

-- each part between slashes may stand in a path
abbrev pub are_parts : List ℕ → Bool
are_parts bs = list_all is_part (parts_of bs)
