-- The index of paths, as the map that it is kept in.
use Rattle.std.specs.Prelude.{ℕ, List, [], ◌∷◌, String, string_bytes}
use Rattle.part_model.specs.Names.{Names}

-- the entries of the map as paths with their files
abbrev pub names_of : {Z : Type 0} → List (String Z × ℕ) → Names
names_of [] = []
names_of (e ∷ es) = (string_bytes e.0, e.1) ∷ names_of es
