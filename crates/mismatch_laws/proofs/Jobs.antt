-- Jobs are the same without what mismatches have found.
use Rattle.std.proofs.Common.{refl, ◌≡◌, ◌∷◌, [], option_map, map, ℕ}
use Rattle.std.specs.Prelude.{zero, suc, ◌++◌, Option, Some, None, if◌then◌else◌, ◌==◌, ◌&&◌, ◌||◌, filter, nat_le, bytes_eq}
use Rattle.std.specs.List.{list_any, flat_map}
use Rattle.cta_site.specs.declared.site.Site.{Site}
use Rattle.cta_site.specs.Lookups.{copies_of}
use Rattle.cta_model.specs.declared.entries.Entry.{Entry}
use Rattle.cta_model.specs.declared.asks.Ask.{Ask}
use Rattle.cta_model.specs.declared.asks.Ask.TheVariants as ask
use Rattle.cta_model.specs.declared.answers.Answer.{Answer}
use Rattle.cta_model.specs.declared.answers.Answer.TheVariants as answer
use Rattle.cta_model.specs.declared.asks.Fate.{Fate}
use Rattle.cta_model.specs.declared.asks.Fate.TheVariants as fate
use Rattle.cta_model.specs.declared.asks.Item.{Item}
use Rattle.cta_model.specs.declared.asks.Job.{Job}
use Rattle.cta_model.specs.History.{History, is_number}
use Rattle.cta_model.specs.Mounts.{same_job, job_of, has_copy}
use Rattle.cta_model.specs.Places.{is_done}
use Rattle.cta_model.specs.Recalls.{Recall}
use Rattle.cta_model.specs.Jobs.{archive_after, archive_birth, bears_archive, end_after, ends_archive, is_live_job, job_end, jobs_born, jobs_for, live_birth, may_bear, newly_born, subscribers_of, subscribes}
use Rattle.mismatch_laws.specs.Alike.{ask_without_found, entry_without_found, history_without_found}
use Rattle.mismatch_laws.proofs.History.{entry_numbers_same, next_number_same}
use Rattle.mismatch_laws.proofs.Files.{copy_numbers_same, path_of_same}
use Rattle.mismatch_laws.proofs.Places.{flushed_in_same}
use Rattle.mismatch_laws.proofs.Buffer.{is_resident_same}
use Rattle.mismatch_laws.proofs.Charges.{is_last_charge_same}
use Rattle.mismatch_laws.proofs.Recalls.{live_recall_same, waits_for_same}
use Rattle.mismatch_laws.proofs.RepackItems.{is_repacked_same}

pub bears_archive_same : (site : Site) (h : History) (k : Ask) (a : Answer) (f : ℕ) (c : ℕ) → bears_archive site (history_without_found h) (ask_without_found k) a f c ≡ bears_archive site h k a f c
bears_archive_same site h (ask.Put who path sum) a f c = λ z. (next_number_same h z) == f && (nat_le 1 c && nat_le c (copies_of site path))
bears_archive_same site h (ask.Retry who paths) (answer.Retried jobs) f c = refl
bears_archive_same site h (ask.Repack who v) (answer.Repacking id items) f c = λ z. (is_resident_same h f z) && has_copy f c items.items
bears_archive_same site h (ask.Recalled m job) (answer.Arrived fate.Done) f c = λ z. job.file == f && (is_repacked_same site h f c z)
bears_archive_same site h _ a f c = refl

pub ends_archive_same : (site : Site) (h : History) (k : Ask) (a : Answer) (j : Job) → ends_archive site (history_without_found h) (ask_without_found k) a j ≡ ends_archive site h k a j
ends_archive_same site h (ask.Flushed m items) a j = λ z. list_any (λ (x : Item × Fate). is_done x.1 && same_job x.0.job j) (flushed_in_same (ask.Flushed m items) a z)
ends_archive_same site h (ask.Failed m fault charged returned) a j = λ z. is_last_charge_same site h (ask.Failed m fault charged returned) j z
ends_archive_same site h (ask.Delete who path) a j = λ z. bytes_eq path (path_of_same h j.file z)
ends_archive_same site h _ a j = refl

pub archive_after_same : (site : Site) (h : History) (e : Entry) (f : ℕ) (c : ℕ) (f' : Option ℕ) → archive_after site (history_without_found h) (entry_without_found e) f c f' ≡ archive_after site h e f c f'
archive_after_same site h e f c None = λ z. if (bears_archive_same site h e.ask e.answer f c z) then Some (next_number_same h z) else None
archive_after_same site h e f c (Some birth) = λ z. if (ends_archive_same site h e.ask e.answer (job_of birth f c) z) then None else Some birth

pub archive_birth_same : (site : Site) (h : History) (f : ℕ) (c : ℕ) → archive_birth site (history_without_found h) f c ≡ archive_birth site h f c
archive_birth_same site [] f c = refl
archive_birth_same site (e ∷ h) f c = λ z. archive_after_same site h e f c (archive_birth_same site h f c z) z

pub live_birth_same : (site : Site) (h : History) (f : ℕ) (n : ℕ) → live_birth site (history_without_found h) f n ≡ live_birth site h f n
live_birth_same site h f zero = λ z. option_map (λ (r : Recall). r.birth) (live_recall_same site h f z)
live_birth_same site h f (suc c) = λ z. archive_birth_same site h f (suc c) z

pub is_live_job_same : (site : Site) (h : History) (j : Job) → is_live_job site (history_without_found h) j ≡ is_live_job site h j
is_live_job_same site h j = λ z. is_number j.birth (live_birth_same site h j.file j.copy z)

pub jobs_for_same : (site : Site) (h : History) (birth : ℕ) (f : ℕ) → jobs_for site (history_without_found h) birth f ≡ jobs_for site h birth f
jobs_for_same site h birth f = λ z. map (job_of birth f) (0 ∷ (copy_numbers_same site h f z))

pub may_bear_same : (k : Ask) → may_bear (ask_without_found k) ≡ may_bear k
may_bear_same (ask.Put who path sum) = refl
may_bear_same (ask.Stage who files) = refl
may_bear_same (ask.Recalled m job) = refl
may_bear_same (ask.Repack who v) = refl
may_bear_same (ask.Retry who paths) = refl
may_bear_same _ = refl

pub newly_born_same : (site : Site) (h : History) (e : Entry) → newly_born site (history_without_found h) (entry_without_found e) ≡ newly_born site h e
newly_born_same site h e = λ z. if (may_bear_same e.ask z)
    then filter (λ z1. is_live_job_same site (e ∷ h) z1 z) (flat_map (λ z2. jobs_for_same site (e ∷ h) (next_number_same h z) z2 z) (entry_numbers_same (e ∷ h) z))
    else []

pub jobs_born_same : (site : Site) (h : History) → jobs_born site (history_without_found h) ≡ jobs_born site h
jobs_born_same site [] = refl
jobs_born_same site (e ∷ h) = λ z. (jobs_born_same site h z) ++ (newly_born_same site h e z)

pub subscribes_same : (site : Site) (h : History) (k : Ask) (j : Job) → subscribes site (history_without_found h) (ask_without_found k) j ≡ subscribes site h k j
subscribes_same site h k j = λ z. (waits_for_same site h k j.file z) && ((next_number_same h z) == j.birth || (is_live_job_same site h j z))

pub subscribers_of_same : (site : Site) (h : History) (j : Job) → subscribers_of site (history_without_found h) j ≡ subscribers_of site h j
subscribers_of_same site [] j = refl
subscribers_of_same site (e ∷ h) j = λ z. (subscribers_of_same site h j z) ++ (if (subscribes_same site h e.ask j z) then (next_number_same h z) ∷ [] else [])

pub job_end_same : (site : Site) (h : History) (j : Job) → job_end site (history_without_found h) j ≡ job_end site h j
job_end_same site [] j = refl
job_end_same site (e ∷ h) j = λ z. end_after (is_live_job_same site h j z) (is_live_job_same site (e ∷ h) j z) (next_number_same h z) (job_end_same site h j z)
