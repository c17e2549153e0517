-- The index of paths of a history.
use Rattle.std.specs.Prelude.{ℕ, ◌≡◌, List}
use Rattle.cta_model.specs.History.{History}
use Rattle.cta_model.specs.Files.{live_file}
use Rattle.part_model.specs.Names.{Names, file_in}

-- the index stands for the history
abbrev pub AreNames : History → Names → Type 0
AreNames h v = (path : List ℕ) → file_in v path ≡ live_file h path
