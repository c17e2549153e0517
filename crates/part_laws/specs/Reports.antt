-- What the looks are answered by the parts that answer them; those at stage requests and repacks are in `space_parts`.
use Rattle.std.specs.Prelude.{ℕ, length, List, [], ◌++◌, Option, Some, None, map, nat_le, not, codes}
use Rattle.std.specs.List.{flat_map, range_with_len}
use Rattle.cta_site.specs.declared.site.Site.{Site}
use Rattle.cta_site.specs.Listed.{rows}
use Rattle.cta_site.specs.Lookups.{pool_name, vid_of}
use Rattle.cta_model.specs.declared.asks.Direction.{Direction}
use Rattle.cta_model.specs.declared.asks.Direction.TheVariants as direction
use Rattle.cta_model.specs.declared.asks.Job.{Job}
use Rattle.cta_model.specs.declared.answers.Answer.{Answer}
use Rattle.cta_model.specs.declared.answers.Answer.TheVariants as answer
use Rattle.cta_model.specs.declared.answers.Refusal.TheVariants as refusal
use Rattle.cta_model.specs.declared.reports.FailedCopy.{FailedCopy}
use Rattle.cta_model.specs.declared.reports.PlaceInfo.{PlaceInfo}
use Rattle.cta_model.specs.declared.reports.QueueInfo.{QueueInfo}
use Rattle.cta_model.specs.Mounts.{job_of}
use Rattle.cta_model.specs.Stages.{charge_text}
use Rattle.cta_model.specs.Choice.{all_tapes}
use Rattle.cta_model.specs.Answers.{refuse}
use Rattle.cta_model.specs.Reports.{queue_report}
use Rattle.part_model.specs.Held.{Held, is_held}
use Rattle.part_model.specs.JobRows.{JobRows, birth_in, charges_in}
use Rattle.part_model.specs.Names.{file_in}
use Rattle.part_laws.specs.Told.{tape_told}
use Rattle.part_laws.specs.AllParts.{AllParts}
use Rattle.part_laws.specs.Choices.{sums_told}
use Rattle.part_laws.specs.Files.{Files, copies_told, locality_told}

-- ---- files

-- what a Fetch of what a path names is answered
abbrev pub fetch_with : Held → Files → Option ℕ → Answer
fetch_with b files None = answer.Refused refusal.NoFile
fetch_with b files (Some f) = refuse refusal.NotResident (not (is_held b f)) (answer.Bytes (files.sum f))

-- what a Fetch is answered
abbrev pub fetch_told : AllParts → Files → List ℕ → Answer
fetch_told v files path = fetch_with v.space.buffer files (file_in v.space.names path)

-- what is told of a path that names this file, or none
abbrev pub place_told : Site → AllParts → Files → List ℕ → Option ℕ → PlaceInfo
place_told site v files path None = record { path = path; locality = None; error = Some (codes "no such file") }
place_told site v files path (Some f) = record { path = path; locality = Some (locality_told v.space.tapes v.space.buffer f (copies_told site files f)); error = None }

-- what an ArchiveInfo is told of its paths
abbrev pub places_told : Site → AllParts → Files → List (List ℕ) → List PlaceInfo
places_told site v files paths = map (λ path. place_told site v files path (file_in v.space.names path)) paths

-- ---- failed copies

-- the errors of the last job of a copy: its charges in order, none where no job was born for it
abbrev pub errors_told : Site → JobRows → ℕ → ℕ → Option ℕ → List (List ℕ)
errors_told site b f c None = []
errors_told site b f c (Some birth) = map (charge_text site) (charges_in b.charges (job_of birth f c))

-- what is told of a failed copy
abbrev pub failed_copy_told : Site → JobRows → Files → Job → FailedCopy
failed_copy_told site b files j = record { path = files.path j.file; copy = j.copy; errors = rows (errors_told site b j.file j.copy (birth_in b.births j.file j.copy)) }

-- what a FailedList is told
abbrev pub failed_copies_told : Site → AllParts → Files → List FailedCopy
failed_copies_told site v files = map (failed_copy_told site v.book files) v.failed

-- ---- tapes and queues

-- what a TapeInfo is answered
abbrev pub tape_info_told : Site → AllParts → ℕ → Answer
tape_info_told site v tape = refuse refusal.NoTape (nat_le (length site.tapes.items) tape) (answer.TapeSeen (tape_told site v.space.tapes tape))

-- the reports of the queues of these keys in a direction, each key told by its name
abbrev pub queues_by : AllParts → Direction → (ℕ → List ℕ) → List ℕ → List QueueInfo
queues_by v way name keys = flat_map (λ key. queue_report way (name key) (sums_told v way key)) keys

-- what a Queues is told
abbrev pub queues_told : Site → AllParts → List QueueInfo
queues_told site v =
    queues_by v direction.Archive (pool_name site) (range_with_len 0 (length site.pools.items))
    ++ queues_by v direction.Retrieve (vid_of site) (all_tapes site)
