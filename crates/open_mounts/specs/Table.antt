-- The value of the table of open mounts.
use Rattle.std.specs.Prelude.{ℕ, suc, List, [], ◌∷◌, Bool, true, false, not, ◌&&◌}
use Rattle.part_model.specs.declared.mounts.OpenMount.{OpenMount}
use Rattle.part_model.specs.Mounts.{has_mount}

-- the rows of the open mounts, oldest first; the drives that are down; and how many drives the site has
pub record MountTable : Type 0 where
  pub rows : List OpenMount
  pub downs : List ℕ
  pub drives : ℕ

-- the places, counted from n, at which a flag is set
abbrev pub places_from : ℕ → List Bool → List ℕ
places_from n [] = []
places_from n (true ∷ flags) = n ∷ places_from (suc n) flags
places_from n (false ∷ flags) = places_from (suc n) flags

-- whether each mount has one row
abbrev pub differ : List OpenMount → Bool
differ [] = true
differ (r ∷ rows) = not (has_mount r.number rows) && differ rows
