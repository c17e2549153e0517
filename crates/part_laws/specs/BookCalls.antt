-- What the calls of a core do to the books of stage requests and of repacks, ask by ask.
use Rattle.std.specs.Prelude.{ℕ, List, [], ◌∷◌, Option, Some, None, is_some, option_to_list, Bool, false, not, ◌==◌, ◌&&◌, ◌||◌, if◌then◌else◌, map, filter, codes}
use Rattle.std.specs.List.{filter_map, flat_map}
use Rattle.cta_site.specs.declared.site.Site.{Site}
use Rattle.cta_model.specs.declared.entries.Entry.{Entry}
use Rattle.cta_model.specs.declared.asks.Ask.{Ask}
use Rattle.cta_model.specs.declared.asks.Ask.TheVariants as ask
use Rattle.cta_model.specs.declared.asks.Fate.{Fate}
use Rattle.cta_model.specs.declared.asks.Fate.TheVariants as fate
use Rattle.cta_model.specs.declared.asks.Item.{Item}
use Rattle.cta_model.specs.declared.asks.Job.{Job}
use Rattle.cta_model.specs.declared.answers.Answer.{Answer}
use Rattle.cta_model.specs.declared.answers.Answer.TheVariants as answer
use Rattle.cta_model.specs.declared.reports.ItemState.TheVariants as item
use Rattle.cta_model.specs.declared.states.RequestFile.{RequestFile}
use Rattle.cta_model.specs.History.{History, next_number, has_text, is_empty}
use Rattle.cta_model.specs.Files.{live_file, copy_numbers}
use Rattle.cta_model.specs.Mounts.{job_of, item_jobs}
use Rattle.cta_model.specs.Places.{flushed_in, is_done, live_items_on, places_of}
use Rattle.cta_model.specs.Buffer.{is_resident}
use Rattle.cta_model.specs.Charges.{is_last_charge}
use Rattle.cta_model.specs.Recalls.{live_recall}
use Rattle.cta_model.specs.RepackItems.{waiting_for}
use Rattle.cta_model.specs.Jobs.{is_live_job}
use Rattle.cta_model.specs.Stages.{StageRequest, is_claimed_before, recall_error, stage_files}
use Rattle.cta_model.specs.Repacks.{after_reading, after_writing}
use Rattle.cta_laws.specs.Claims.{claimed_by}
use Rattle.cta_laws.specs.Stages.{files_staged, waits}
use Rattle.part_model.specs.declared.space.FileEnd.{FileEnd}
use Rattle.part_model.specs.declared.space.FileEnd.TheVariants as end
use Rattle.part_model.specs.Requests.{Requests, RequestsAgree, add_request, finish_all, release_all, remove_request, request_in, start_all}
use Rattle.part_model.specs.Repacks.{Repacks, RepacksAgree, Target, add_repack, reading_copies, repack_in, set_states, writers_in}

-- ---- recalls and archive jobs that an entry claims or ends

-- the files whose recalls are among these jobs
abbrev pub recalls_in : List Job → List ℕ
recalls_in jobs = map (λ (j : Job). j.file) (filter (λ (j : Job). j.copy == 0) jobs)

-- the files of the recalls that an entry claims
abbrev pub recalls_claimed : Ask → Answer → List ℕ
recalls_claimed k a = recalls_in (item_jobs (claimed_by k a))

-- the live jobs that a Failed charges for the last time
abbrev pub jobs_failed : Site → History → Ask → List Job
jobs_failed site h (ask.Failed m fault charged returned) = filter (λ j. is_live_job site h j && is_last_charge site h (ask.Failed m fault charged returned) j) charged.items
jobs_failed site h _ = []

-- the files with a copy on this tape that have a live recall and no place behind the entry e
abbrev pub files_lost : Site → History → Entry → ℕ → List ℕ
files_lost site h e v = filter (λ f. is_some (live_recall site h f) && is_empty (places_of site (e ∷ h) f)) (map (λ (i : Item). i.job.file) (live_items_on h v))

-- the files of the recalls that the entry e, with this ask and answer, ends while somebody waits: a completed recall, one that is charged
-- for the last time, that of a deleted file, and those of files that a TapeState leaves without a place
abbrev pub recalls_ended : Site → History → Entry → Ask → Answer → List ℕ
recalls_ended site h e (ask.Recalled m job) (answer.Arrived fate.Done) = job.file ∷ []
recalls_ended site h e (ask.Failed m fault charged returned) a = recalls_in (jobs_failed site h (ask.Failed m fault charged returned))
recalls_ended site h e (ask.Delete who path) a = option_to_list (live_file h path)
recalls_ended site h e (ask.TapeState who v s) a = files_lost site h e v
recalls_ended site h e _ _ = []

-- all copies of a file, none where there is no file
abbrev pub copies_named : Site → History → Option ℕ → List Job
copies_named site h None = []
copies_named site h (Some f) = map (job_of 0 f) (copy_numbers site h f)

-- the jobs of items that were put on tape
abbrev pub jobs_done : List (Item × Fate) → List Job
jobs_done xs = map (λ (x : Item × Fate). x.0.job) (filter (λ (x : Item × Fate). is_done x.1) xs)

-- the copies whose archive jobs an entry with this ask and answer ends: those that are flushed, those that are charged for the last time,
-- and those of a deleted file
abbrev pub copies_ended : Site → History → Ask → Answer → List Job
copies_ended site h (ask.Flushed m items) a = jobs_done (flushed_in (ask.Flushed m items) a)
copies_ended site h (ask.Failed m fault charged returned) a = jobs_failed site h (ask.Failed m fault charged returned)
copies_ended site h (ask.Delete who path) a = copies_named site h (live_file h path)
copies_ended site h _ a = []

-- ---- stage requests

-- a request with each of these files
abbrev pub asked_by : ℕ → List ℕ → List (ℕ × ℕ)
asked_by id fs = map (λ (f : ℕ). (id, f)) fs

-- the requests that wait for the recall of this file, each with the file
abbrev pub waiters_of : Site → History → Requests → ℕ → List (ℕ × ℕ)
waiters_of site h v f = map (λ (id : ℕ). (id, f)) (filter (λ id. is_some (request_in v id)) (waiting_for (live_recall site h f)))

-- the requests that wait for the recalls of these files, each with the file
abbrev pub waiters : Site → History → Requests → List ℕ → List (ℕ × ℕ)
waiters site h v fs = flat_map (waiters_of site h v) fs

-- the file of a path of a request where the file waits and the path is listed
abbrev pub waiting_at : List (List ℕ) → RequestFile → Option ℕ
waiting_at paths s = if waits s.state && has_text s.path paths then s.file else None

-- the waiting files of a request at these paths, none where there is no request
abbrev pub waiting_files : List (List ℕ) → Option StageRequest → List ℕ
waiting_files paths None = []
waiting_files paths (Some r) = filter_map (waiting_at paths) r.files

-- how the waiting files end whose recall the entry e, with this ask, ends
abbrev pub recall_end : Site → History → Entry → Ask → ℕ → FileEnd
recall_end site h e (ask.Recalled m job) f = end.Completed
recall_end site h e (ask.Failed m fault charged returned) f = end.Failed (recall_error site (e ∷ h) f (live_recall site h f))
recall_end site h e (ask.Delete who path) f = end.Failed (codes "deleted")
recall_end site h e _ f = end.Failed (codes "no tape is left")

-- whether a file that the Stage entry e names is STARTED at once: it is resident, or it has a place and a Claim has named its recall
abbrev pub starts_at_once : Site → History → Entry → ℕ → Bool
starts_at_once site h e f = is_resident h f || (not (is_empty (places_of site h f)) && is_claimed_before h f (live_recall site (e ∷ h) f))

-- whether a file is not resident and has no place
abbrev pub is_lost : Site → History → ℕ → Bool
is_lost site h f = not (is_resident h f) && is_empty (places_of site h f)

-- the calls for a Stage: the request is added, and its files are started and finished that need not wait
abbrev pub after_stage : Site → History → Entry → List ℕ → Requests → Requests
after_stage site h e fs v =
    finish_all e.at (λ f. end.Failed (codes "no tape is left")) (asked_by (next_number h) (filter (is_lost site h) fs))
    (finish_all e.at (λ f. end.Completed) (asked_by (next_number h) (filter (is_resident h) fs)) (start_all e.at (asked_by (next_number h) (filter (starts_at_once site h e) fs)) v))

-- what the calls for the entry e, with this ask and answer, do to the book of stage requests
abbrev pub RequestsCalled : Site → History → Entry → Ask → Answer → Requests → Requests → Type 0
RequestsCalled site h e (ask.Stage who files) a v v' =
    RequestsAgree v' (after_stage site h e (files_staged site h files.items) (add_request (next_number h) e.at (stage_files site h files.items) v))
RequestsCalled site h e (ask.Cancel who id paths) a v v' = RequestsAgree v' (finish_all e.at (λ f. end.Cancelled) (asked_by id (waiting_files paths.items (request_in v id))) v)
RequestsCalled site h e (ask.DropStage who id) a v v' = RequestsAgree v' (remove_request id v)
RequestsCalled site h e (ask.Release who id paths) a v v' = RequestsAgree v' (release_all id paths.items v)
RequestsCalled site h e (ask.Claim m) a v v' = RequestsAgree v' (start_all e.at (waiters site h v (recalls_claimed (ask.Claim m) a)) v)
RequestsCalled site h e k a v v' = RequestsAgree v' (finish_all e.at (recall_end site h e k) (waiters site h v (recalls_ended site h e k a)) v)

-- ---- repacks

-- the copies of this file that repacks are READING which wait for its recall
abbrev pub readers_of : Site → History → Repacks → ℕ → List Target
readers_of site h v f = flat_map (λ (id : ℕ). map (λ (c : ℕ). (id, f, c)) (reading_copies f (repack_in v id))) (waiting_for (live_recall site h f))

-- the copies of these files that repacks are READING which wait for their recalls
abbrev pub readers : Site → History → Repacks → List ℕ → List Target
readers site h v fs = flat_map (readers_of site h v) fs

-- this copy, with each repack that is WRITING it
abbrev pub writers_of : Repacks → Job → List Target
writers_of v j = map (λ (id : ℕ). (id, j.file, j.copy)) (writers_in v j.file j.copy)

-- these copies, with each repack that is WRITING them
abbrev pub writers : Repacks → List Job → List Target
writers v jobs = flat_map (writers_of v) jobs

-- the items of a new repack whose files are resident
abbrev pub items_here : History → ℕ → List Job → List Target
items_here h id jobs = map (λ (j : Job). (id, j.file, j.copy)) (filter (λ (j : Job). is_resident h j.file) jobs)

-- what the calls for the entry e, with this ask and answer, do to the book of repacks
abbrev pub RepacksCalled : Site → History → Entry → Ask → Answer → Repacks → Repacks → Type 0
RepacksCalled site h e (ask.Repack who tape) (answer.Repacking id items) v v' =
    RepacksAgree v' (set_states item.Writing (items_here h (next_number h) items.items) (add_repack (next_number h) tape items.items v))
RepacksCalled site h e k a v v' =
    RepacksAgree v' (set_states (after_writing false k) (writers v (copies_ended site h k a)) (set_states (after_reading false k) (readers site h v (recalls_ended site h e k a)) v))
