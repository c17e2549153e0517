-- The book of stage requests: what it can be asked, and what its calls do.
use Rattle.std.specs.Prelude.{ℕ, ◌≡◌, List, [], ◌∷◌, Option, Some, None, Bool, true, false, if◌then◌else◌, ◌==◌, not, map, filter, bytes_eq, codes}
use Rattle.std.specs.List.{list_any}
use Rattle.cta_model.specs.declared.reports.FileState.{FileState}
use Rattle.cta_model.specs.declared.reports.FileState.TheVariants as file
use Rattle.cta_model.specs.declared.states.StageFile.{StageFile}
use Rattle.cta_model.specs.declared.states.RequestFile.{RequestFile}
use Rattle.cta_model.specs.History.{is_number}
use Rattle.cta_model.specs.Stages.{StageRequest, submitted, started, finished}
use Rattle.cta_model.specs.Pins.{Pin, stage_pins}
use Rattle.part_model.specs.declared.space.FileEnd.{FileEnd}
use Rattle.part_model.specs.declared.space.FileEnd.TheVariants as end

-- the stage requests, by number
abbrev pub Requests : Type 0
Requests = List (ℕ × StageRequest)

-- ---- what the book can be asked

-- the request of a number
abbrev pub request_in : Requests → ℕ → Option StageRequest
request_in [] id = None
request_in (x ∷ xs) id = if x.0 == id then Some x.1 else request_in xs id

-- whether there is a request and it has the path
abbrev pub has_path_by : List ℕ → Option StageRequest → Bool
has_path_by path None = false
has_path_by path (Some r) = list_any (λ (s : RequestFile). bytes_eq path s.path) r.files

-- `has(id, path)`: whether the request is there and has the path
abbrev pub has_path_in : Requests → ℕ → List ℕ → Bool
has_path_in v id path = has_path_by path (request_in v id)

-- the end of the first of these pins, where there is one
abbrev pub first_end : List Pin → Option (Option ℕ)
first_end [] = None
first_end (p ∷ ps) = Some p.until

-- `pin_end(id, file)`: the end of the pin of a file by the request, none where the request does not pin it
abbrev pub pin_end_in : Requests → ℕ → ℕ → Option (Option ℕ)
pin_end_in v id f = first_end (stage_pins f id (request_in v id))

-- ---- calls

-- a file as it is added: SUBMITTED, or FAILED at once where its path named no file
abbrev pub added_file : ℕ → StageFile → Option ℕ → RequestFile
added_file at s None = finished (submitted s) file.Failed at (Some (codes "no such file"))
added_file at s (Some f) = submitted s

-- `add(id, at, files)`: one request more, of these files
abbrev pub add_request : ℕ → ℕ → List StageFile → Requests → Requests
add_request id at files v = (id, record { at = at; files = map (λ (s : StageFile). added_file at s s.file) files }) ∷ v

-- a file that is turned where it waits: only a SUBMITTED or a STARTED one does
abbrev pub where_waiting : (RequestFile → RequestFile) → FileState → RequestFile → RequestFile
where_waiting turn file.Submitted s = turn s
where_waiting turn file.Started s = turn s
where_waiting turn _ s = s

-- a file of a request that is turned where it is this file and waits
abbrev pub turned_file : ℕ → (RequestFile → RequestFile) → RequestFile → RequestFile
turned_file f turn s = if is_number f s.file then where_waiting turn s.state s else s

-- the requests with each file of one of them turned
abbrev pub turn_request : ℕ → (RequestFile → RequestFile) → Requests → Requests
turn_request id turn v = map (λ (x : ℕ × StageRequest). if x.0 == id then (x.0, record { at = x.1.at; files = map turn x.1.files }) else x) v

-- `start(id, file, at)`: the file is STARTED, since this moment where it was not before
abbrev pub start : ℕ → ℕ → ℕ → Requests → Requests
start id f at v = turn_request id (turned_file f (λ s. started s at)) v

-- a file that ends so at this moment
abbrev pub ended_file : ℕ → FileEnd → RequestFile → RequestFile
ended_file at end.Completed s = finished s file.Completed at None
ended_file at end.Cancelled s = finished s file.Cancelled at None
ended_file at (end.Failed text) s = finished s file.Failed at (Some text)

-- `finish(id, file, at, end)`: the file ends at this moment
abbrev pub finish : ℕ → ℕ → ℕ → FileEnd → Requests → Requests
finish id f at how v = turn_request id (turned_file f (ended_file at how)) v

-- a file that is released where it has this path
abbrev pub released_at : List ℕ → RequestFile → RequestFile
released_at path s = if bytes_eq path s.path then record s { released = true } else s

-- `release(id, path)`: the file of the path is released
abbrev pub release : ℕ → List ℕ → Requests → Requests
release id path v = turn_request id (released_at path) v

-- `remove(id)`: the request is there no more
abbrev pub remove_request : ℕ → Requests → Requests
remove_request id v = filter (λ (x : ℕ × StageRequest). not (x.0 == id)) v

-- ---- calls in turn

-- `start` for each of these requests and files
abbrev pub start_all : ℕ → List (ℕ × ℕ) → Requests → Requests
start_all at [] v = v
start_all at (x ∷ xs) v = start_all at xs (start x.0 x.1 at v)

-- `finish` for each of these requests and files, as the file ends
abbrev pub finish_all : ℕ → (ℕ → FileEnd) → List (ℕ × ℕ) → Requests → Requests
finish_all at how [] v = v
finish_all at how (x ∷ xs) v = finish_all at how xs (finish x.0 x.1 at (how x.1) v)

-- `release` for each of these paths
abbrev pub release_all : ℕ → List (List ℕ) → Requests → Requests
release_all id [] v = v
release_all id (p ∷ ps) v = release_all id ps (release id p v)

-- the books tell the same of each number
abbrev pub RequestsAgree : Requests → Requests → Type 0
RequestsAgree v w = (id : ℕ) → request_in v id ≡ request_in w id
