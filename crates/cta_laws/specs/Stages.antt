-- Laws of stage requests.
use Rattle.std.specs.Prelude.{ℕ, ◌≡◌, ◌≤◌, List, Some, Bool, true, false, ◌&&◌, ◌||◌, not, filter}
use Rattle.std.specs.List.{AllByRecursion, list_any, filter_map}
use Rattle.cta_site.specs.declared.site.Site.{Site}
use Rattle.cta_model.specs.declared.entries.Entry.{Entry}
use Rattle.cta_model.specs.declared.asks.Ask.{Ask}
use Rattle.cta_model.specs.declared.asks.Wanted.{Wanted}
use Rattle.cta_model.specs.declared.reports.FileState.{FileState}
use Rattle.cta_model.specs.declared.reports.FileState.TheVariants as file
use Rattle.cta_model.specs.declared.states.RequestFile.{RequestFile}
use Rattle.cta_model.specs.declared.states.StageFile.{StageFile}
use Rattle.cta_model.specs.History.{History, last_moment, has_number, is_number}
use Rattle.cta_model.specs.Files.{is_live, path_of}
use Rattle.cta_model.specs.Buffer.{is_resident}
use Rattle.cta_model.specs.Recalls.{Recall, live_recall, recall_job}
use Rattle.cta_model.specs.Jobs.{subscribers_of}
use Rattle.cta_model.specs.Stages.{StageRequest, stage_files, request_of, requests_made, cancels, drops}
use Rattle.cta_model.specs.Pins.{Pin, is_above, stage_pins}
use Rattle.cta_model.specs.Legal.{IsLegal}

-- whether a file waits for its recall: it is SUBMITTED or STARTED
abbrev pub waits : FileState → Bool
waits file.Submitted = true
waits file.Started = true
waits _ = false

-- a file's finish is not before its start, where it has both
abbrev pub FinishesLater : RequestFile → Type 0
FinishesLater s = (start finish : ℕ) → s.started ≡ Some start → s.finished ≡ Some finish → start ≤ finish

-- in a legal history no file of a stage request finishes before it starts
abbrev pub FinishesAfterStart : Type 0
FinishesAfterStart =
    (site : Site) (h : History) → IsLegal site h → (id : ℕ) (r : StageRequest) → request_of site h id ≡ Some r → AllByRecursion FinishesLater r.files

-- ---- requests and recalls

-- a file of a request has a live recall, for which the request waits
pub record HasRecall (site : Site) (h : History) (id : ℕ) (s : RequestFile) : Type 0 where
  pub number : ℕ
  pub recall : Recall
  pub names : s.file ≡ Some number
  pub on : live_recall site h number ≡ Some recall
  pub among : has_number id recall.waiting ≡ true

-- in a legal history a waiting file of a request has a live recall, for which the request waits
abbrev pub WaitingHasRecall : Type 0
WaitingHasRecall =
    (site : Site) (h : History) → IsLegal site h → (id : ℕ) (q : StageRequest) → request_of site h id ≡ Some q
    → AllByRecursion (λ (s : RequestFile). waits s.state ≡ true → HasRecall site h id s) q.files

-- whether a file of a request waits for this file
abbrev pub waits_for_file : ℕ → RequestFile → Bool
waits_for_file f s = waits s.state && is_number f s.file

-- in a legal history a request that a live recall has waiting is there, and a file of it waits for the file of the recall
abbrev pub AskedHasWaiting : Type 0
AskedHasWaiting =
    (site : Site) (h : History) → IsLegal site h → (f id : ℕ) (r : Recall) → live_recall site h f ≡ Some r → has_number id r.waiting ≡ true → has_number id (requests_made h) ≡ true
    → (q : StageRequest) × (request_of site h id ≡ Some q) × (list_any (waits_for_file f) q.files ≡ true)

-- whether an ask takes this path from a request: it cancels the path, or drops the request
abbrev pub takes_path : Ask → ℕ → List ℕ → Bool
takes_path k id path = cancels k id path || drops id k

-- whether some entry has cancelled this path of a request, or dropped the request
abbrev pub has_left : History → ℕ → List ℕ → Bool
has_left h id path = list_any (λ (e : Entry). takes_path e.ask id path) h

-- in a legal history a live recall has its subscribers waiting, in order, but for those that have left its path
abbrev pub SubscribersWait : Type 0
SubscribersWait =
    (site : Site) (h : History) → IsLegal site h → (f : ℕ) (r : Recall) → live_recall site h f ≡ Some r
    → r.waiting ≡ filter (λ id. not (has_left h id (path_of h f))) (subscribers_of site h (recall_job r.birth f))

-- the files that the paths of a Stage name
abbrev pub files_staged : Site → History → List Wanted → List ℕ
files_staged site h wanted = filter_map (λ (s : StageFile). s.file) (stage_files site h wanted)

-- ---- requests and the buffer

-- in a legal history no request pins a live file that is not resident, from the last moment on
abbrev pub AwayIsUnpinned : Type 0
AwayIsUnpinned =
    (site : Site) (h : History) → IsLegal site h → (f id t : ℕ) → is_live h f ≡ true → is_resident h f ≡ false → last_moment h ≤ t
    → list_any (λ (p : Pin). is_above t p.until) (stage_pins f id (request_of site h id)) ≡ false
