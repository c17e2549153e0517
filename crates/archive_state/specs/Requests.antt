-- What is told of stage requests.
use Rattle.std.specs.Prelude.{ℕ, List, [], Option, Some, None, Bool, map}
use Rattle.cta_site.specs.Listed.{rows}
use Rattle.cta_model.specs.declared.reports.StageFileInfo.{StageFileInfo}
use Rattle.cta_model.specs.declared.reports.StageInfo.{StageInfo}
use Rattle.cta_model.specs.declared.states.RequestFile.{RequestFile}
use Rattle.cta_model.specs.Reports.{greatest_finish, least_start}
use Rattle.cta_model.specs.Stages.{StageRequest}
use Rattle.part_model.specs.Held.{Held}
use Rattle.part_laws.specs.Told.{file_told}

-- the paths of a request, none where there is no request
abbrev pub paths_of : Option StageRequest → List (List ℕ)
paths_of None = []
paths_of (Some r) = map (λ (s : RequestFile). s.path) r.files

-- what is told of a file of a request, with this word of whether it is on disk
abbrev pub marked : StageFileInfo → Bool → StageFileInfo
marked info on_disk = record info { on_disk = on_disk }

-- what is told of a request, where a file is on disk that the buffer holds
abbrev pub info_told : Held → ℕ → StageRequest → StageInfo
info_told b id r = record {
  id = id;
  created_at = r.at;
  started_at = least_start r.files;
  completed_at = greatest_finish r.files;
  files = rows (map (file_told b) r.files);
}
