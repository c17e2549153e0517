-- What looks report is the same without what mismatches have found.
use Rattle.std.proofs.Common.{refl, ◌≡◌, ◌∷◌, [], List, map, ℕ}
use Rattle.std.specs.Prelude.{length, ◌++◌, Option, Some, None, ◌==◌, ◌&&◌, filter}
use Rattle.std.specs.List.{range_with_len, flat_map}
use Rattle.cta_site.specs.declared.site.Site.{Site}
use Rattle.cta_site.specs.Listed.{rows}
use Rattle.cta_site.specs.Lookups.{pool_name, vid_of}
use Rattle.cta_model.specs.declared.asks.Direction.{Direction}
use Rattle.cta_model.specs.declared.asks.Direction.TheVariants as direction
use Rattle.cta_model.specs.declared.asks.Job.{Job}
use Rattle.cta_model.specs.declared.states.RequestFile.{RequestFile}
use Rattle.cta_model.specs.declared.states.RepackCopy.{RepackCopy}
use Rattle.cta_model.specs.History.{History}
use Rattle.cta_model.specs.Stages.{StageRequest}
use Rattle.cta_model.specs.Repacks.{Repack}
use Rattle.cta_model.specs.Choice.{all_tapes}
use Rattle.cta_model.specs.Reports.{errors_of_last, failed_copies, failed_copy, greatest_finish, is_on_disk, jobs_of_copy, least_start, place_info, place_infos, queue_report, queue_reports, queue_reports_by, repack_item, repack_report, stage_file_info, stage_report, tape_report}
use Rattle.mismatch_laws.specs.Alike.{history_without_found}
use Rattle.mismatch_laws.proofs.Files.{live_file_same, live_files_same, path_of_same}
use Rattle.mismatch_laws.proofs.Tapes.{next_fseq_same, tape_state_same, used_bytes_same}
use Rattle.mismatch_laws.proofs.Places.{live_items_on_same}
use Rattle.mismatch_laws.proofs.Buffer.{is_resident_same}
use Rattle.mismatch_laws.proofs.Jobs.{jobs_born_same}
use Rattle.mismatch_laws.proofs.Stages.{charge_texts_same}
use Rattle.mismatch_laws.proofs.Queues.{queue_of_same, sums_of_same}
use Rattle.mismatch_laws.proofs.Localities.{locality_of_same}
use Rattle.mismatch_laws.proofs.Answers.{failed_numbers_same}

pub place_info_same : (site : Site) (h : History) (path : List ℕ) (f : Option ℕ) → place_info site (history_without_found h) path f ≡ place_info site h path f
place_info_same site h path None = refl
place_info_same site h path (Some f) = λ z. record { path = path; locality = Some (locality_of_same site h f z); error = None }

pub place_infos_same : (site : Site) (h : History) (paths : List (List ℕ)) → place_infos site (history_without_found h) paths ≡ place_infos site h paths
place_infos_same site h paths = λ z. map (λ path. (place_info_same site h path (live_file_same h path z) z)) paths

pub is_on_disk_same : (h : History) (f : Option ℕ) → is_on_disk (history_without_found h) f ≡ is_on_disk h f
is_on_disk_same h None = refl
is_on_disk_same h (Some f) = λ z. is_resident_same h f z

pub stage_file_info_same : (h : History) (s : RequestFile) → stage_file_info (history_without_found h) s ≡ stage_file_info h s
stage_file_info_same h s = λ z. record { path = s.path; state = s.state; on_disk = (is_on_disk_same h s.file z); started_at = s.started; finished_at = s.finished; error = s.error }

pub stage_report_same : (h : History) (id : ℕ) (r : StageRequest) → stage_report (history_without_found h) id r ≡ stage_report h id r
stage_report_same h id r = λ z. record {
  id = id;
  created_at = r.at;
  started_at = least_start r.files;
  completed_at = greatest_finish r.files;
  files = rows (map (λ z1. stage_file_info_same h z1 z) r.files);
}

pub repack_item_same : (h : History) (i : RepackCopy) → repack_item (history_without_found h) i ≡ repack_item h i
repack_item_same h i = λ z. record { path = (path_of_same h i.file z); copy = i.copy; state = i.state }

pub repack_report_same : (site : Site) (h : History) (id : ℕ) (r : Repack) → repack_report site (history_without_found h) id r ≡ repack_report site h id r
repack_report_same site h id r = λ z. record { id = id; vid = vid_of site r.tape; items = rows (map (λ z1. repack_item_same h z1 z) r.items) }

pub jobs_of_copy_same : (site : Site) (h : History) (f : ℕ) (c : ℕ) → jobs_of_copy site (history_without_found h) f c ≡ jobs_of_copy site h f c
jobs_of_copy_same site h f c = λ z. filter (λ (j : Job). j.file == f && j.copy == c) (jobs_born_same site h z)

pub errors_of_last_same : (site : Site) (h : History) (js : List Job) → errors_of_last site (history_without_found h) js ≡ errors_of_last site h js
errors_of_last_same site h [] = refl
errors_of_last_same site h (j ∷ []) = charge_texts_same site h j
errors_of_last_same site h (j ∷ k ∷ jobs) = errors_of_last_same site h (k ∷ jobs)

pub failed_copy_same : (site : Site) (h : History) (f : ℕ) (c : ℕ) → failed_copy site (history_without_found h) f c ≡ failed_copy site h f c
failed_copy_same site h f c = λ z. record { path = (path_of_same h f z); copy = c; errors = rows (errors_of_last_same site h (jobs_of_copy_same site h f c z) z) }

pub failed_copies_same : (site : Site) (h : History) → failed_copies site (history_without_found h) ≡ failed_copies site h
failed_copies_same site h = λ z. flat_map (λ f. map (λ z1. failed_copy_same site h f z1 z) (failed_numbers_same site h f z)) (live_files_same h z)

pub tape_report_same : (site : Site) (h : History) (v : ℕ) → tape_report site (history_without_found h) v ≡ tape_report site h v
tape_report_same site h v = λ z. record {
  vid = vid_of site v;
  state = (tape_state_same site h v z);
  used = (used_bytes_same h v z);
  files = length (live_items_on_same h v z);
  next_fseq = (next_fseq_same h v z);
}

pub queue_reports_by_same : (site : Site) (h : History) (way : Direction) (name : (ℕ → List ℕ)) (keys : List ℕ) → queue_reports_by site (history_without_found h) way name keys ≡ queue_reports_by site h way name keys
queue_reports_by_same site h way name keys = λ z. flat_map (λ key. queue_report way (name key) (sums_of_same site h way (queue_of_same site h way key z) z)) keys

pub queue_reports_same : (site : Site) (h : History) → queue_reports site (history_without_found h) ≡ queue_reports site h
queue_reports_same site h = λ z. (queue_reports_by_same site h direction.Archive (pool_name site) (range_with_len 0 (length site.pools.items)) z)
    ++ (queue_reports_by_same site h direction.Retrieve (vid_of site) (all_tapes site) z)
