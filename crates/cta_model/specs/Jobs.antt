-- Jobs. A job is live from its birth to its end. At most one recall of a file is live, and at most one archive job of a copy.
use Rattle.std.specs.Prelude.{ℕ, zero, suc, List, [], ◌∷◌, ◌++◌, Option, Some, None, option_map, map, Bool, true, false, if◌then◌else◌, ◌==◌, ◌&&◌, ◌||◌, filter, nat_le, bytes_eq}
use Rattle.std.specs.List.{list_any, flat_map}
use Rattle.cta_site.specs.declared.site.Site.{Site}
use Rattle.cta_site.specs.Lookups.{copies_of}
use Rattle.cta_model.specs.declared.entries.Entry.{Entry}
use Rattle.cta_model.specs.declared.asks.Ask.{Ask}
use Rattle.cta_model.specs.declared.asks.Ask.TheVariants as ask
use Rattle.cta_model.specs.declared.answers.Answer.{Answer}
use Rattle.cta_model.specs.declared.answers.Answer.TheVariants as answer
use Rattle.cta_model.specs.declared.asks.Fate.{Fate}
use Rattle.cta_model.specs.declared.asks.Fate.TheVariants as fate
use Rattle.cta_model.specs.declared.asks.Item.{Item}
use Rattle.cta_model.specs.declared.asks.Job.{Job}
use Rattle.cta_model.specs.History.{History, next_number, entry_numbers, is_number}
use Rattle.cta_model.specs.Files.{path_of, copy_numbers}
use Rattle.cta_model.specs.Mounts.{same_job, job_of, has_copy}
use Rattle.cta_model.specs.Places.{flushed_in, is_done}
use Rattle.cta_model.specs.Buffer.{is_resident}
use Rattle.cta_model.specs.Charges.{is_last_charge}
use Rattle.cta_model.specs.Recalls.{Recall, live_recall, waits_for}
use Rattle.cta_model.specs.RepackItems.{is_repacked}

-- ---- archive jobs

-- whether an entry bears an archive job of the copy: the file's Put; a Retry of the copy; a Repack of the copy of a resident file;
-- or the Recalled that makes the file of a repacked copy resident
abbrev pub bears_archive : Site → History → Ask → Answer → ℕ → ℕ → Bool
bears_archive site h (ask.Put who path sum) a f c = next_number h == f && (nat_le 1 c && nat_le c (copies_of site path))
bears_archive site h (ask.Retry who paths) (answer.Retried jobs) f c = has_copy f c jobs.items
bears_archive site h (ask.Repack who v) (answer.Repacking id items) f c = is_resident h f && has_copy f c items.items
bears_archive site h (ask.Recalled m job) (answer.Arrived fate.Done) f c = job.file == f && is_repacked site h f c
bears_archive site h _ a f c = false

-- whether an entry ends a live archive job: it is flushed with fate Done, charged for the last time, or its file is deleted
abbrev pub ends_archive : Site → History → Ask → Answer → Job → Bool
ends_archive site h (ask.Flushed m items) a j = list_any (λ (x : Item × Fate). is_done x.1 && same_job x.0.job j) (flushed_in (ask.Flushed m items) a)
ends_archive site h (ask.Failed m fault charged returned) a j = is_last_charge site h (ask.Failed m fault charged returned) j
ends_archive site h (ask.Delete who path) a j = bytes_eq path (path_of h j.file)
ends_archive site h _ a j = false

-- the birth of a copy's live archive job after the entry e: where none was live, e may bear one; where one was, e may end it
abbrev pub archive_after : Site → History → Entry → ℕ → ℕ → Option ℕ → Option ℕ
archive_after site h e f c None = if bears_archive site h e.ask e.answer f c then Some (next_number h) else None
archive_after site h e f c (Some birth) = if ends_archive site h e.ask e.answer (job_of birth f c) then None else Some birth

-- the birth of the live archive job of a copy
abbrev pub archive_birth : Site → History → ℕ → ℕ → Option ℕ
archive_birth site [] f c = None
archive_birth site (e ∷ h) f c = archive_after site h e f c (archive_birth site h f c)

-- ---- all jobs

-- the birth of the live job of a copy of a file, where copy 0 is the recall
abbrev pub live_birth : Site → History → ℕ → ℕ → Option ℕ
live_birth site h f zero = option_map (λ (r : Recall). r.birth) (live_recall site h f)
live_birth site h f (suc c) = archive_birth site h f (suc c)

-- a job is live where it was born and has not ended
abbrev pub is_live_job : Site → History → Job → Bool
is_live_job site h j = is_number j.birth (live_birth site h j.file j.copy)

-- the jobs of this birth that there may be for a file: its recall, and one for each of its copies
abbrev pub jobs_for : Site → History → ℕ → ℕ → List Job
jobs_for site h birth f = map (job_of birth f) (0 ∷ copy_numbers site h f)

-- the asks by which a job may be born
abbrev pub may_bear : Ask → Bool
may_bear (ask.Put who path sum) = true
may_bear (ask.Stage who files) = true
may_bear (ask.Recalled m job) = true
may_bear (ask.Repack who v) = true
may_bear (ask.Retry who paths) = true
may_bear _ = false

-- the jobs born by the newest entry e, by file and copy: those with its number as birth that are live behind it
abbrev pub newly_born : Site → History → Entry → List Job
newly_born site h e =
    if may_bear e.ask
    then filter (is_live_job site (e ∷ h)) (flat_map (jobs_for site (e ∷ h) (next_number h)) (entry_numbers (e ∷ h)))
    else []

-- all jobs that were ever born, in order of birth, file and copy
abbrev pub jobs_born : Site → History → List Job
jobs_born site [] = []
jobs_born site (e ∷ h) = jobs_born site h ++ newly_born site h e

-- whether an entry, where h are those before it, subscribes to a recall: it waits for the file, and bears the recall or finds it live
abbrev pub subscribes : Site → History → Ask → Job → Bool
subscribes site h k j = waits_for site h k j.file && (next_number h == j.birth || is_live_job site h j)

-- the subscribers of a recall, in order: the Stage and Repack entries that named its file when it was born or while it was live
abbrev pub subscribers_of : Site → History → Job → List ℕ
subscribers_of site [] j = []
subscribers_of site (e ∷ h) j = subscribers_of site h j ++ (if subscribes site h e.ask j then next_number h ∷ [] else [])

-- the end of a job after the entry of this number: the earlier end, else this entry where the job was live before it and is not after it
abbrev pub end_after : Bool → Bool → ℕ → Option ℕ → Option ℕ
end_after was is n (Some m) = Some m
end_after true false n None = Some n
end_after true true n None = None
end_after false is n None = None

-- the entry that ends a job: the first before which it is live and after which it is not
abbrev pub job_end : Site → History → Job → Option ℕ
job_end site [] j = None
job_end site (e ∷ h) j = end_after (is_live_job site h j) (is_live_job site (e ∷ h) j) (next_number h) (job_end site h j)
