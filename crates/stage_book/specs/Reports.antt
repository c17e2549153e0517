-- What is told of a request, with no word of the buffer: no file is on disk.
use Rattle.std.specs.Prelude.{ℕ, List, [], ◌∷◌, Option, Some, None, option_map, false, map}
use Rattle.cta_site.specs.Listed.{rows}
use Rattle.cta_model.specs.declared.reports.FileState.{FileState}
use Rattle.cta_model.specs.declared.reports.StageInfo.{StageInfo}
use Rattle.cta_model.specs.declared.reports.StageFileInfo.{StageFileInfo}
use Rattle.cta_model.specs.declared.states.RequestFile.{RequestFile}
use Rattle.cta_model.specs.Bare.{bare_rows}
use Rattle.cta_model.specs.Reports.{earlier_of, greatest_finish, later_of, least_start}
use Rattle.cta_model.specs.Stages.{StageRequest}
use Rattle.part_model.specs.Requests.{Requests, request_in}

-- what is told of a file of a request
abbrev pub file_told : RequestFile → StageFileInfo
file_told s = record { path = s.path; state = s.state; on_disk = false; started_at = s.started; finished_at = s.finished; error = s.error }

-- what is told of a request
abbrev pub request_told : ℕ → StageRequest → StageInfo
request_told id r = record {
  id = id;
  created_at = r.at;
  started_at = least_start r.files;
  completed_at = greatest_finish r.files;
  files = rows (map file_told r.files);
}

-- what is told of the request of a number, none where there is no such request
abbrev pub info_in : Requests → ℕ → Option StageInfo
info_in v id = option_map (request_told id) (request_in v id)

-- a report with no room to spare in its list
abbrev pub bare_info : StageInfo → StageInfo
bare_info r = record r { files = bare_rows r.files }

-- the least start of files that are told
abbrev pub least_told : List StageFileInfo → Option ℕ
least_told [] = None
least_told (s ∷ ss) = earlier_of s.started_at (least_told ss)

-- the greatest finish of files that are told, once all have one
abbrev pub greatest_told : List StageFileInfo → Option ℕ
greatest_told [] = None
greatest_told (s ∷ []) = s.finished_at
greatest_told (s ∷ r ∷ ss) = later_of s.finished_at (greatest_told (r ∷ ss))

-- the state of a file, where there is one
abbrev pub state_of : Option RequestFile → Option FileState
state_of None = None
state_of (Some s) = Some s.state

-- the file that a path of a request named, where there is one
abbrev pub number_of : Option RequestFile → Option ℕ
number_of None = None
number_of (Some s) = s.file

-- the path of a file of a request, empty where there is none
abbrev pub path_of : Option RequestFile → List ℕ
path_of None = []
path_of (Some s) = s.path

-- the files of a request, none where there is no request
abbrev pub files_of : Option StageRequest → List RequestFile
files_of None = []
files_of (Some r) = r.files
