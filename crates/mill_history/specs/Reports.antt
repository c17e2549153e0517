-- What is told of a mill's files by looks at its archive.
use Rattle.std.specs.Prelude.{ℕ, ◌≡◌, List, Option, Some, map}
use Rattle.std.specs.List.{range_with_len}
use Rattle.cta_model.specs.declared.answers.Answer.{Answer}
use Rattle.cta_model.specs.declared.answers.Answer.TheVariants as answer
use Rattle.cta_model.specs.declared.reports.FileState.{FileState}
use Rattle.cta_model.specs.declared.reports.FileState.TheVariants as state
use Rattle.cta_model.specs.declared.reports.StageFileInfo.{StageFileInfo}
use Rattle.cta_model.specs.declared.reports.PlaceInfo.{PlaceInfo}
use Rattle.cta_model.specs.declared.reports.Locality.{Locality}
use Rattle.cta_model.specs.declared.reports.Locality.TheVariants as locality
use Rattle.load_mill.specs.Files.{file_path}

-- what is told of a file of a request: its path and its state
abbrev pub staged_file : StageFileInfo → List ℕ × FileState
staged_file s = (s.path, s.state)

-- a completed file of a mill
abbrev pub completed_file : ℕ → List ℕ × FileState
completed_file k = (file_path k, state.Completed)

-- these are so many files of a mill, in their order, each completed
abbrev pub AreCompleted : List StageFileInfo → ℕ → Type 0
AreCompleted infos files = map staged_file infos ≡ map completed_file (range_with_len 0 files)

-- the report of a request has so many files of a mill, in their order, each completed
abbrev pub IsCompleted : Answer → ℕ → Type 0
IsCompleted (answer.Stage r) files = AreCompleted r.files.items files
IsCompleted _ files = ⊥

-- what is told of a path: the path and its locality
abbrev pub placed_file : PlaceInfo → List ℕ × Option Locality
placed_file p = (p.path, p.locality)

-- a file of a mill that is on disk and on tape
abbrev pub kept_file : ℕ → List ℕ × Option Locality
kept_file k = (file_path k, Some locality.DiskAndTape)

-- these are so many files of a mill, in their order, each on disk and on tape
abbrev pub AreKept : List PlaceInfo → ℕ → Type 0
AreKept infos files = map placed_file infos ≡ map kept_file (range_with_len 0 files)

-- what is told of paths are so many files of a mill, in their order, each on disk and on tape
abbrev pub IsKept : Answer → ℕ → Type 0
IsKept (answer.Places infos) files = AreKept infos.items files
IsKept _ files = ⊥
