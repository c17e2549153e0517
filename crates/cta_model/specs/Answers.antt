-- The sequential archive: what each ask is answered.
use Rattle.std.specs.Prelude.{ℕ, ◌+◌, length, List, [], ◌∷◌, ◌++◌, Option, Some, None, is_none, is_some, Bool, true, false, if◌then◌else◌, ◌==◌, ◌&&◌, ◌||◌, not, map, filter, nat_le, nat_lt, bytes_eq}
use Rattle.std.specs.List.{list_any, list_all}
use Rattle.cta_site.specs.declared.site.Site.{Site}
use Rattle.cta_site.specs.Listed.{rows}
use Rattle.cta_site.specs.Lookups.{class_of}
use Rattle.cta_model.specs.declared.asks.Ask.{Ask}
use Rattle.cta_model.specs.declared.asks.Ask.TheVariants as ask
use Rattle.cta_model.specs.declared.answers.Answer.{Answer}
use Rattle.cta_model.specs.declared.answers.Answer.TheVariants as answer
use Rattle.cta_model.specs.declared.answers.Refusal.{Refusal}
use Rattle.cta_model.specs.declared.answers.Refusal.TheVariants as refusal
use Rattle.cta_model.specs.declared.asks.Fate.{Fate}
use Rattle.cta_model.specs.declared.asks.Fate.TheVariants as fate
use Rattle.cta_model.specs.declared.asks.Direction.{Direction}
use Rattle.cta_model.specs.declared.asks.Direction.TheVariants as direction
use Rattle.cta_model.specs.declared.asks.Job.{Job}
use Rattle.cta_model.specs.declared.asks.Item.{Item}
use Rattle.cta_model.specs.declared.states.RequestFile.{RequestFile}
use Rattle.cta_model.specs.declared.states.Mount.{Mount}
use Rattle.cta_model.specs.declared.states.Candidate.{Candidate}
use Rattle.cta_model.specs.History.{History, next_number, moment_of, weight_of, weight_of_entry, has_text, is_empty}
use Rattle.cta_model.specs.Files.{live_file, copy_numbers}
use Rattle.cta_model.specs.Mounts.{mount_of, is_open, is_mounted, is_busy, is_down, claimed_items, claims, last_batch, item_jobs, has_job, same_job, job_of}
use Rattle.cta_model.specs.Tapes.{tape_state, is_broken, may_be_repacked, size_of_items}
use Rattle.cta_model.specs.Places.{was_flushed, live_items_on}
use Rattle.cta_model.specs.Jobs.{is_live_job, archive_birth}
use Rattle.cta_model.specs.RepackItems.{repack_items}
use Rattle.cta_model.specs.Stages.{StageRequest, request_of}
use Rattle.cta_model.specs.Repacks.{is_repack_live}
use Rattle.cta_model.specs.Space.{free_space, evictable_size, evicted_for}
use Rattle.cta_model.specs.Choice.{mount_choice}
use Rattle.cta_model.specs.Batches.{batch_of}
use Rattle.cta_site.specs.Paths.{is_path}

-- the refusal where the test holds, and otherwise the answer
abbrev pub refuse : Refusal → Bool → Answer → Answer
refuse r true a = answer.Refused r
refuse r false a = a

-- ---- files

-- a Put is Stored, with what is evicted for its size
abbrev pub put_answer : Site → History → ℕ → List ℕ → ℕ → Answer
put_answer site h t path size =
    refuse refusal.BadPath (not (is_path path))
    (refuse refusal.NoDirectory (is_none (class_of site path))
    (refuse refusal.PathTaken (is_some (live_file h path))
    (refuse refusal.NoSpace (nat_lt (free_space site h + evictable_size site h t) size)
    (answer.Stored (rows (evicted_for site h t size))))))

-- a Delete is refused where its path names no file
abbrev pub delete_answer : History → List ℕ → Answer
delete_answer h path = refuse refusal.NoFile (is_none (live_file h path)) answer.Done

-- ---- stage requests

-- a Cancel or Release takes paths of its request alone
abbrev pub request_answer : Option StageRequest → List (List ℕ) → Answer
request_answer None paths = answer.Refused refusal.NoRequest
request_answer (Some r) paths = refuse refusal.ForeignPath (not (list_all (λ p. has_text p (map (λ (s : RequestFile). s.path) r.files)) paths)) answer.Done

-- a DropStage is refused where its request was never made, or was dropped
abbrev pub drop_answer : Site → History → ℕ → Answer
drop_answer site h id = refuse refusal.NoRequest (is_none (request_of site h id)) answer.Done

-- ---- drive sessions

-- what a Next is answered: that the candidate is mounted, under this number, or Idle where there is no candidate
abbrev pub mounted : ℕ → Option Candidate → Answer
mounted n None = answer.Idle
mounted n (Some c) = answer.Mounted n c.direction c.tape

-- a Next mounts the choice
abbrev pub next_answer : Site → History → ℕ → ℕ → Answer
next_answer site h t d =
    refuse refusal.NoDrive (nat_le (length site.drives.items) d)
    (if is_down h d then answer.DriveDown
    else if is_busy h d then answer.DriveBusy
    else mounted (next_number h) (mount_choice site h t d))

-- a Claim of a reading mount evicts for the sum of its batch
abbrev pub batch_answer : Site → History → ℕ → Direction → List Item → Answer
batch_answer site h t way [] = answer.Nothing
batch_answer site h t direction.Archive (i ∷ items) = answer.Batch (rows (i ∷ items)) (rows [])
batch_answer site h t direction.Retrieve (i ∷ items) = answer.Batch (rows (i ∷ items)) (rows (evicted_for site h t (size_of_items (i ∷ items))))

-- the answer to a Claim of this mount, a refusal where there is no mount
abbrev pub claim_by : Site → History → ℕ → Option Mount → Answer
claim_by site h t None = answer.Refused refusal.Unknown
claim_by site h t (Some m) = batch_answer site h t m.direction (batch_of site h t m)

-- a Claim of an open mount takes its batch; that of any other mount is refused
abbrev pub claim_answer : Site → History → ℕ → ℕ → Answer
claim_answer site h t m = refuse refusal.Unknown (not (is_open h m)) (claim_by site h t (mount_of h m))

-- whether a mount claims each of these jobs
abbrev pub claims_all : History → ℕ → List Job → Bool
claims_all h m jobs = list_all (claims h m) jobs

-- whether a job is named twice
abbrev pub names_twice : List Job → Bool
names_twice [] = false
names_twice (j ∷ js) = has_job j js || names_twice js

-- an ask that ends claims of an open mount names jobs that the mount claims, none twice
abbrev pub is_known : History → ℕ → List Job → Bool
is_known h m jobs = is_open h m && (claims_all h m jobs && not (names_twice jobs))

-- an item that was flushed or read is stale exactly where its job has ended
abbrev pub fate_of : Site → History → Job → Fate
fate_of site h j = if is_live_job site h j then fate.Done else fate.Stale

-- two items are the same where their jobs, fSeqs, lengths and digests are
abbrev pub same_item : Item → Item → Bool
same_item a b = same_job a.job b.job && (a.fseq == b.fseq && (a.sum.len == b.sum.len && bytes_eq a.sum.digest b.sum.digest))

-- two lists of items are the same where they have the same items in the same order
abbrev pub same_items : List Item → List Item → Bool
same_items [] [] = true
same_items [] (b ∷ ys) = false
same_items (a ∷ xs) [] = false
same_items (a ∷ xs) (b ∷ ys) = same_item a b && same_items xs ys

-- whether these are the items of the last batch, in its order; where there is no last batch, they are not
abbrev pub is_last_batch : Option (List Item) → List Item → Bool
is_last_batch None items = false
is_last_batch (Some last) items = same_items items last

-- a Flushed names the items of the mount's last Claim, and is told the fate of each
abbrev pub flushed_answer : Site → History → ℕ → List Item → Answer
flushed_answer site h m items =
    refuse refusal.Unknown (not (is_known h m (item_jobs items) && is_last_batch (last_batch h m) items))
    (answer.Told (rows (map (λ (i : Item). fate_of site h i.job) items)))

-- a Recalled names a job that its open mount claims, and is told the job's fate
abbrev pub recalled_answer : Site → History → ℕ → Job → Answer
recalled_answer site h m j = refuse refusal.Unknown (not (is_known h m (j ∷ []))) (answer.Arrived (fate_of site h j))

-- a Failed names jobs that its open mount claims, charged and returned, none twice
abbrev pub failed_answer : History → ℕ → List Job → Answer
failed_answer h m jobs = refuse refusal.Unknown (not (is_known h m jobs)) answer.Done

-- a mount may end where it claims nothing
abbrev pub end_answer : History → ℕ → Answer
end_answer h m = refuse refusal.Unknown (not (is_open h m && is_empty (claimed_items h m))) answer.Done

-- ---- drives and tapes

-- a DriveUp or DriveDown is refused where the site has no such drive
abbrev pub drive_answer : Site → ℕ → Answer
drive_answer site d = refuse refusal.NoDrive (nat_le (length site.drives.items) d) answer.Done

-- the answer where the site has the tape, and it is neither mounted nor BROKEN
abbrev pub on_free_tape : Site → History → ℕ → Answer → Answer
on_free_tape site h v a =
    refuse refusal.NoTape (nat_le (length site.tapes.items) v)
    (refuse refusal.TapeMounted (is_mounted h v)
    (refuse refusal.TapeBroken (is_broken (tape_state site h v)) a))

-- a tape is reclaimed where it is neither mounted nor BROKEN, and no live file has a place on it
abbrev pub reclaim_answer : Site → History → ℕ → Answer
reclaim_answer site h v = on_free_tape site h v (refuse refusal.LiveFiles (not (is_empty (live_items_on h v))) answer.Done)

-- a REPACKING tape of the site is repacked where no repack of it is live, and the answer names the items
abbrev pub repack_answer : Site → History → ℕ → Answer
repack_answer site h v =
    refuse refusal.NoTape (nat_le (length site.tapes.items) v)
    (refuse refusal.NotRepacking (not (may_be_repacked (tape_state site h v)))
    (refuse refusal.RepackLive (is_repack_live site h v)
    (answer.Repacking (next_number h) (rows (repack_items h v)))))

-- ---- failed copies

-- a copy has failed where it was never flushed and has no live archive job
abbrev pub is_failed : Site → History → ℕ → ℕ → Bool
is_failed site h f c = not (was_flushed h f c) && is_none (archive_birth site h f c)

-- the failed copies of a file, by copy
abbrev pub failed_numbers : Site → History → ℕ → List ℕ
failed_numbers site h f = filter (is_failed site h f) (copy_numbers site h f)

-- the jobs that a Retry bears for what a path names: one for each failed copy of the file, none where it names no file
abbrev pub retried_file : Site → History → Option ℕ → List Job
retried_file site h None = []
retried_file site h (Some f) = map (job_of (next_number h) f) (failed_numbers site h f)

-- the jobs that a Retry bears, in order of first naming
abbrev pub retried_jobs : Site → History → List (List ℕ) → List (List ℕ) → List Job
retried_jobs site h seen [] = []
retried_jobs site h seen (p ∷ ps) = if has_text p seen then retried_jobs site h seen ps else retried_file site h (live_file h p) ++ retried_jobs site h (p ∷ seen) ps

-- a Retry is refused where one of its paths names no file, and is otherwise told the jobs that it bears
abbrev pub retry_answer : Site → History → List (List ℕ) → Answer
retry_answer site h paths = refuse refusal.NoFile (list_any (λ p. is_none (live_file h p)) paths) (answer.Retried (rows (retried_jobs site h [] paths)))

-- ---- all asks

-- the answer at the moment t, but for the history's weight
abbrev pub light_answer : Site → History → ℕ → Ask → Answer
light_answer site h t (ask.Put who path sum) = put_answer site h t path sum.len
light_answer site h t (ask.Delete who path) = delete_answer h path
light_answer site h t (ask.Stage who files) = answer.Staged (next_number h)
light_answer site h t (ask.Cancel who id paths) = request_answer (request_of site h id) paths.items
light_answer site h t (ask.DropStage who id) = drop_answer site h id
light_answer site h t (ask.Release who id paths) = request_answer (request_of site h id) paths.items
light_answer site h t (ask.Next d) = next_answer site h t d
light_answer site h t (ask.Claim m) = claim_answer site h t m
light_answer site h t (ask.Flushed m items) = flushed_answer site h m items.items
light_answer site h t (ask.Recalled m job) = recalled_answer site h m job
light_answer site h t (ask.Failed m fault charged returned) = failed_answer h m (charged.items ++ returned.items)
light_answer site h t (ask.End m fault) = end_answer h m
light_answer site h t (ask.DriveUp who d) = drive_answer site d
light_answer site h t (ask.DriveDown who d) = drive_answer site d
light_answer site h t (ask.TapeState who v s) = on_free_tape site h v answer.Done
light_answer site h t (ask.Reclaim who v) = reclaim_answer site h v
light_answer site h t (ask.Repack who v) = repack_answer site h v
light_answer site h t (ask.Retry who paths) = retry_answer site h paths.items

-- an accepted answer appends an entry; all others append none
abbrev pub is_accepted : Answer → Bool
is_accepted answer.Idle = false
is_accepted answer.DriveDown = false
is_accepted answer.DriveBusy = false
is_accepted answer.Nothing = false
is_accepted (answer.Refused r) = false
is_accepted _ = true

-- Flushed, Recalled, Failed and End are never refused for the history's weight, so that a mount can always be finished
abbrev pub may_be_refused_for_weight : Ask → Bool
may_be_refused_for_weight (ask.Flushed m items) = false
may_be_refused_for_weight (ask.Recalled m job) = false
may_be_refused_for_weight (ask.Failed m fault charged returned) = false
may_be_refused_for_weight (ask.End m fault) = false
may_be_refused_for_weight _ = true

-- whether the history with the new entry would weigh more than the limit
abbrev pub is_too_heavy : Site → History → Ask → Answer → Bool
is_too_heavy site h k a = may_be_refused_for_weight k && (is_accepted a && nat_lt site.limits.history (weight_of h + weight_of_entry k a))

-- the answer, or the refusal HistoryFull where the history with the new entry would weigh more than the limit
abbrev pub weighed : Site → History → Ask → Answer → Answer
weighed site h k a = refuse refusal.HistoryFull (is_too_heavy site h k a) a

-- the answer to an ask that is given this moment, on this history
abbrev pub answer_of : Site → History → ℕ → Ask → Answer
answer_of site h t k = weighed site h k (light_answer site h (moment_of h t) k)
