-- What looks report: files, stage requests, repacks, failed copies, tapes and queues.
use Rattle.std.specs.Prelude.{ℕ, length, List, [], ◌∷◌, ◌++◌, Option, Some, None, Bool, false, ◌==◌, ◌&&◌, min, max, map, filter, codes}
use Rattle.std.specs.List.{range_with_len, flat_map}
use Rattle.cta_site.specs.declared.site.Site.{Site}
use Rattle.cta_site.specs.Listed.{rows}
use Rattle.cta_site.specs.Lookups.{pool_name, vid_of}
use Rattle.cta_model.specs.declared.asks.Direction.{Direction}
use Rattle.cta_model.specs.declared.asks.Direction.TheVariants as direction
use Rattle.cta_model.specs.declared.asks.Job.{Job}
use Rattle.cta_model.specs.declared.reports.PlaceInfo.{PlaceInfo}
use Rattle.cta_model.specs.declared.reports.StageInfo.{StageInfo}
use Rattle.cta_model.specs.declared.reports.StageFileInfo.{StageFileInfo}
use Rattle.cta_model.specs.declared.reports.RepackInfo.{RepackInfo}
use Rattle.cta_model.specs.declared.reports.RepackItem.{RepackItem}
use Rattle.cta_model.specs.declared.reports.FailedCopy.{FailedCopy}
use Rattle.cta_model.specs.declared.reports.TapeInfo.{TapeInfo}
use Rattle.cta_model.specs.declared.reports.QueueInfo.{QueueInfo}
use Rattle.cta_model.specs.declared.states.RequestFile.{RequestFile}
use Rattle.cta_model.specs.declared.states.RepackCopy.{RepackCopy}
use Rattle.cta_model.specs.declared.states.Sums.{Sums}
use Rattle.cta_model.specs.History.{History}
use Rattle.cta_model.specs.Files.{live_file, live_files, path_of}
use Rattle.cta_model.specs.Tapes.{tape_state, used_bytes, next_fseq}
use Rattle.cta_model.specs.Places.{live_items_on}
use Rattle.cta_model.specs.Buffer.{is_resident}
use Rattle.cta_model.specs.Charges.{charges_of}
use Rattle.cta_model.specs.Jobs.{jobs_born}
use Rattle.cta_model.specs.Stages.{StageRequest, charge_text}
use Rattle.cta_model.specs.Repacks.{Repack}
use Rattle.cta_model.specs.Queues.{queue_of, sums_of}
use Rattle.cta_model.specs.Choice.{all_tapes}
use Rattle.cta_model.specs.Localities.{locality_of}
use Rattle.cta_model.specs.Answers.{failed_numbers}

-- ---- files

-- what is told of a path: the locality of the file that it names, and an error where it names none
abbrev pub place_info : Site → History → List ℕ → Option ℕ → PlaceInfo
place_info site h path None = record { path = path; locality = None; error = Some (codes "no such file") }
place_info site h path (Some f) = record { path = path; locality = Some (locality_of site h f); error = None }

-- what is told of paths, in the order asked, repeats kept
abbrev pub place_infos : Site → History → List (List ℕ) → List PlaceInfo
place_infos site h paths = map (λ path. place_info site h path (live_file h path)) paths

-- ---- stage requests

-- a file of a request is on disk where its path named a file, and that file is resident now
abbrev pub is_on_disk : History → Option ℕ → Bool
is_on_disk h None = false
is_on_disk h (Some f) = is_resident h f

-- what is told of a file of a request: how it stands, and whether it is on disk
abbrev pub stage_file_info : History → RequestFile → StageFileInfo
stage_file_info h s = record { path = s.path; state = s.state; on_disk = is_on_disk h s.file; started_at = s.started; finished_at = s.finished; error = s.error }

-- the earlier of two moments that may be missing; one that is missing does not count
abbrev pub earlier_of : Option ℕ → Option ℕ → Option ℕ
earlier_of None b = b
earlier_of (Some a) None = Some a
earlier_of (Some a) (Some b) = Some (min a b)

-- the later of two moments, missing where one of them is
abbrev pub later_of : Option ℕ → Option ℕ → Option ℕ
later_of None b = None
later_of (Some a) None = None
later_of (Some a) (Some b) = Some (max a b)

-- the least start of files, none where no file has started
abbrev pub least_start : List RequestFile → Option ℕ
least_start [] = None
least_start (s ∷ ss) = earlier_of s.started (least_start ss)

-- the greatest finish of files once all have one
abbrev pub greatest_finish : List RequestFile → Option ℕ
greatest_finish [] = None
greatest_finish (s ∷ []) = s.finished
greatest_finish (s ∷ r ∷ ss) = later_of s.finished (greatest_finish (r ∷ ss))

-- what is told of a request: it was made at its Stage, starts at the least start of its files, and is completed at their greatest finish
abbrev pub stage_report : History → ℕ → StageRequest → StageInfo
stage_report h id r = record {
  id = id;
  created_at = r.at;
  started_at = least_start r.files;
  completed_at = greatest_finish r.files;
  files = rows (map (stage_file_info h) r.files);
}

-- ---- repacks

-- what is told of an item of a repack: the path in the Put of its file, its copy, and how it stands
abbrev pub repack_item : History → RepackCopy → RepackItem
repack_item h i = record { path = path_of h i.file; copy = i.copy; state = i.state }

-- what is told of a repack: its tape and its items
abbrev pub repack_report : Site → History → ℕ → Repack → RepackInfo
repack_report site h id r = record { id = id; vid = vid_of site r.tape; items = rows (map (repack_item h) r.items) }

-- ---- failed copies

-- all jobs that were ever born for a copy of a file, in order of birth
abbrev pub jobs_of_copy : Site → History → ℕ → ℕ → List Job
jobs_of_copy site h f c = filter (λ (j : Job). j.file == f && j.copy == c) (jobs_born site h)

-- the errors of the last of these jobs: its charges in order
abbrev pub errors_of_last : Site → History → List Job → List (List ℕ)
errors_of_last site h [] = []
errors_of_last site h (j ∷ []) = map (charge_text site) (charges_of h j)
errors_of_last site h (j ∷ k ∷ jobs) = errors_of_last site h (k ∷ jobs)

-- what is told of a failed copy: the path of its file, and the errors of its last job
abbrev pub failed_copy : Site → History → ℕ → ℕ → FailedCopy
failed_copy site h f c = record { path = path_of h f; copy = c; errors = rows (errors_of_last site h (jobs_of_copy site h f c)) }

-- the failed copies of all live files, in order of file and copy
abbrev pub failed_copies : Site → History → List FailedCopy
failed_copies site h = flat_map (λ f. map (failed_copy site h f) (failed_numbers site h f)) (live_files h)

-- ---- tapes

-- what is told of a tape: how many copies of live files have their place on it, whatever its state, beside its state, its used bytes
-- and its next fSeq
abbrev pub tape_report : Site → History → ℕ → TapeInfo
tape_report site h v = record {
  vid = vid_of site v;
  state = tape_state site h v;
  used = used_bytes h v;
  files = length (live_items_on h v);
  next_fseq = next_fseq h v;
}

-- ---- queues

-- what is told of a queue with these sums: its files and bytes, and the moment of its first job's birth; nothing where it is empty
abbrev pub queue_report : Direction → List ℕ → Option Sums → List QueueInfo
queue_report way name None = []
queue_report way name (Some s) = record { direction = way; key = name; files = s.files; bytes = s.bytes; oldest = s.born } ∷ []

-- the reports of the queues of these keys in a direction, each key told by its name
abbrev pub queue_reports_by : Site → History → Direction → (ℕ → List ℕ) → List ℕ → List QueueInfo
queue_reports_by site h way name keys = flat_map (λ key. queue_report way (name key) (sums_of site h way (queue_of site h way key))) keys

-- the reports of all queues that are not empty: archive by pool, and then retrieve by VID
abbrev pub queue_reports : Site → History → List QueueInfo
queue_reports site h =
    queue_reports_by site h direction.Archive (pool_name site) (range_with_len 0 (length site.pools.items))
    ++ queue_reports_by site h direction.Retrieve (vid_of site) (all_tapes site)
