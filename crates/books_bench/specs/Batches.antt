-- The files that a stage request is made of.
use Rattle.std.specs.Prelude.{ℕ, ◌≡◌, ◌≤◌, ◌<◌, ◌^◌, ◌++◌, List, false, codes, decimal}
use Rattle.cta_model.specs.declared.states.StageFile.{StageFile}
use Rattle.stage_book.specs.Requested.{AreApart, ArePathsApart, has_file, has_path}

-- the path of a file
abbrev pub path_named : ℕ → List ℕ
path_named f = codes "/data/atlas/file" ++ decimal f

-- no file and no path is among them twice, and none of a number from `next` on
pub record IsBatch (next : ℕ) (files : List StageFile) : Type 0 where
  pub apart : AreApart files
  pub paths : ArePathsApart files
  pub beyond : (f : ℕ) → next ≤ f → has_file f files ≡ false
  pub unnamed : (f : ℕ) → next ≤ f → f < 2 ^ 32 → has_path (path_named f) files ≡ false
