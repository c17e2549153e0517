-- Stage requests. A request is named by the number of its Stage entry.
use Rattle.std.specs.Prelude.{ℕ, List, [], ◌∷◌, ◌++◌, Option, Some, None, Bool, true, false, if◌then◌else◌, ◌==◌, ◌&&◌, codes, unwrap_or, map}
use Rattle.cta_site.specs.declared.site.Site.{Site}
use Rattle.cta_site.specs.Lookups.{drive_name, vid_of}
use Rattle.cta_model.specs.declared.entries.Entry.{Entry}
use Rattle.cta_model.specs.declared.asks.Ask.{Ask}
use Rattle.cta_model.specs.declared.asks.Ask.TheVariants as ask
use Rattle.cta_model.specs.declared.asks.Fault.{Fault}
use Rattle.cta_model.specs.declared.asks.Fault.TheVariants as fault
use Rattle.cta_model.specs.declared.asks.Wanted.{Wanted}
use Rattle.cta_model.specs.declared.reports.FileState.{FileState}
use Rattle.cta_model.specs.declared.reports.FileState.TheVariants as file
use Rattle.cta_model.specs.declared.states.Charge.{Charge}
use Rattle.cta_model.specs.declared.states.StageFile.{StageFile}
use Rattle.cta_model.specs.declared.states.RequestFile.{RequestFile}
use Rattle.cta_model.specs.History.{History, next_number, has_text, is_empty}
use Rattle.cta_model.specs.Files.{live_file}
use Rattle.cta_model.specs.Mounts.{claim_names, was_claimed}
use Rattle.cta_model.specs.Places.{places_of}
use Rattle.cta_model.specs.Buffer.{is_resident}
use Rattle.cta_model.specs.Charges.{charges_of}
use Rattle.cta_model.specs.Recalls.{Recall, live_recall, recall_job}

-- ---- texts of errors

-- what is said of a fault that a job was charged for; loads and unloads charge none
abbrev pub fault_text : Fault → List ℕ
fault_text fault.Write = codes "write fault"
fault_text fault.Flush = codes "flush fault"
fault_text fault.Read = codes "read fault"
fault_text (fault.Mismatch found wanted) = codes "mismatch"
fault_text fault.Load = []
fault_text fault.Unload = []

-- a charge as `FAULT on DRIVE VID`
abbrev pub charge_text : Site → Charge → List ℕ
charge_text site c = fault_text c.fault ++ (codes " on " ++ (drive_name site c.drive ++ (codes " " ++ vid_of site c.tape)))

-- texts joined by `; `
abbrev pub joined_texts : List (List ℕ) → List ℕ
joined_texts [] = []
joined_texts (t ∷ []) = t
joined_texts (t ∷ u ∷ ts) = t ++ (codes "; " ++ joined_texts (u ∷ ts))

-- the error of a file's recall that failed for its last try: its charges in order; empty where there is no recall
abbrev pub recall_error : Site → History → ℕ → Option Recall → List ℕ
recall_error site h f None = []
recall_error site h f (Some r) = joined_texts (map (charge_text site) (charges_of h (recall_job r.birth f)))

-- ---- the moves of a file in a request

-- a file that is asked for and nothing more has happened to
abbrev pub submitted : StageFile → RequestFile
submitted s = record { path = s.path; file = s.file; lifetime = s.lifetime; state = file.Submitted; started = None; finished = None; error = None; released = false }

-- the moment when a file was first STARTED: the one that it has, or else this one
abbrev pub first_start : Option ℕ → ℕ → Option ℕ
first_start None at = Some at
first_start (Some start) at = Some start

-- a file that is STARTED at this moment at the latest
abbrev pub started : RequestFile → ℕ → RequestFile
started s at = record s { state = file.Started; started = first_start s.started at }

-- a file that ends at this moment, in this state, and with this error where there is one
abbrev pub finished : RequestFile → FileState → ℕ → Option (List ℕ) → RequestFile
finished s state at error = record s { state = state; finished = Some at; error = error }

-- a file, released where the test holds, and otherwise as it was
abbrev pub released_if : Bool → RequestFile → RequestFile
released_if true s = record s { released = true }
released_if false s = s

-- ---- a file when it is asked for

-- the first occurrence of each path, beside those already seen
abbrev pub first_named : List (List ℕ) → List Wanted → List Wanted
first_named seen [] = []
first_named seen (w ∷ ws) = if has_text w.path seen then first_named seen ws else w ∷ first_named (w.path ∷ seen) ws

-- what a request is made of: each path once, with the file that it names, and its lifetime or else the site's
abbrev pub stage_files : Site → History → List Wanted → List StageFile
stage_files site h wanted =
    map (λ (w : Wanted). record { path = w.path; file = live_file h w.path; lifetime = unwrap_or w.lifetime site.limits.lifetime }) (first_named [] wanted)

-- whether some Claim has named the recall of the file, where there is a recall
abbrev pub is_claimed_before : History → ℕ → Option Recall → Bool
is_claimed_before h f None = false
is_claimed_before h f (Some r) = was_claimed h (recall_job r.birth f)

-- a file of the Stage entry e, where h are the entries before it: a live one is COMPLETED where it is resident, FAILED where it has no
-- place, and waits for its recall otherwise; it is STARTED at once where a Claim has named the recall before
abbrev pub file_asked_for : Site → History → Entry → RequestFile → Option ℕ → RequestFile
file_asked_for site h e s None = finished s file.Failed e.at (Some (codes "no such file"))
file_asked_for site h e s (Some f) =
    if is_resident h f then finished (started s e.at) file.Completed e.at None
    else if is_empty (places_of site h f) then finished s file.Failed e.at (Some (codes "no tape is left"))
    else if is_claimed_before h f (live_recall site (e ∷ h) f) then started s e.at
    else s

-- how a file stands behind the Stage entry e that asks for it
abbrev pub new_file : Site → History → Entry → StageFile → RequestFile
new_file site h e s = file_asked_for site h e (submitted s) s.file

-- ---- a file after one more entry

-- whether an ask cancels this path of a request
abbrev pub cancels : Ask → ℕ → List ℕ → Bool
cancels (ask.Cancel who k paths) id path = k == id && has_text path paths.items
cancels _ id path = false

-- whether an ask releases this path of a request
abbrev pub releases : Ask → ℕ → List ℕ → Bool
releases (ask.Release who k paths) id path = k == id && has_text path paths.items
releases _ id path = false

-- a waiting file whose recall the entry e, with this ask, has ended
abbrev pub after_recall : Site → History → Entry → Ask → ℕ → RequestFile → RequestFile
after_recall site h e (ask.Recalled m job) f s = finished s file.Completed e.at None
after_recall site h e (ask.Failed m fault charged returned) f s = finished s file.Failed e.at (Some (recall_error site (e ∷ h) f (live_recall site h f)))
after_recall site h e (ask.Delete who path) f s = finished s file.Failed e.at (Some (codes "deleted"))
after_recall site h e _ f s = finished s file.Failed e.at (Some (codes "no tape is left"))

-- a waiting file behind the entry e, where this is its recall: it has ended where there is none, and is STARTED where a Claim names it
abbrev pub with_recall : Site → History → Entry → ℕ → RequestFile → Option Recall → RequestFile
with_recall site h e f s None = after_recall site h e e.ask f s
with_recall site h e f s (Some r) = if claim_names e.ask e.answer (recall_job r.birth f) then started s e.at else s

-- a waiting file behind the entry e: cancelled, or as its recall stands; where its path named no file, it stays as it was
abbrev pub waiting_after : Site → History → Entry → ℕ → RequestFile → Option ℕ → RequestFile
waiting_after site h e id s None = s
waiting_after site h e id s (Some f) = if cancels e.ask id s.path then finished s file.Cancelled e.at None else with_recall site h e f s (live_recall site (e ∷ h) f)

-- a file behind the entry e, where this is its state: only SUBMITTED and STARTED files wait
abbrev pub moved_by : Site → History → Entry → ℕ → RequestFile → FileState → RequestFile
moved_by site h e id s file.Submitted = waiting_after site h e id s s.file
moved_by site h e id s file.Started = waiting_after site h e id s s.file
moved_by site h e id s _ = s

-- a file of a request behind the entry e, where h are the entries before it
abbrev pub file_after : Site → History → Entry → ℕ → RequestFile → RequestFile
file_after site h e id s = released_if (releases e.ask id s.path) (moved_by site h e id s s.state)

-- ---- requests

-- a stage request: its moment, and its files in the order in which it first named them
pub record StageRequest : Type 0 where
  pub at : ℕ
  pub files : List RequestFile

-- the request that the entry e makes; only a Stage makes one
abbrev pub request_by : Site → History → Entry → Ask → Option StageRequest
request_by site h e (ask.Stage who files) = Some (record { at = e.at; files = map (new_file site h e) (stage_files site h files.items) })
request_by site h e _ = None

-- whether an ask is the DropStage of this request
abbrev pub drops : ℕ → Ask → Bool
drops id (ask.DropStage who k) = k == id
drops id _ = false

-- a request behind the entry e: none where e drops it, and otherwise each of its files behind e
abbrev pub request_after : Site → History → Entry → ℕ → Option StageRequest → Option StageRequest
request_after site h e id None = None
request_after site h e id (Some r) = if drops id e.ask then None else Some (record r { files = map (file_after site h e id) r.files })

-- the stage request of this number: made by its Stage, and there until its DropStage
abbrev pub request_of : Site → History → ℕ → Option StageRequest
request_of site [] id = None
request_of site (e ∷ h) id = if next_number h == id then request_by site h e e.ask else request_after site h e id (request_of site h id)

-- whether an ask makes a request
abbrev pub makes_request : Ask → Bool
makes_request (ask.Stage who files) = true
makes_request _ = false

-- the numbers of the requests that were ever made, newest first
abbrev pub requests_made : History → List ℕ
requests_made [] = []
requests_made (e ∷ h) = if makes_request e.ask then next_number h ∷ requests_made h else requests_made h
