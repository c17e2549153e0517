-- Answers are the same without what mismatches have found.
use Rattle.std.proofs.Common.{refl, ◌≡◌, ◌∷◌, [], List, map, ℕ}
use Rattle.std.specs.Prelude.{◌+◌, length, ◌++◌, Option, Some, None, is_none, is_some, if◌then◌else◌, ◌&&◌, not, filter, nat_le, nat_lt}
use Rattle.std.specs.List.{list_any, list_all}
use Rattle.cta_site.specs.declared.site.Site.{Site}
use Rattle.cta_site.specs.Listed.{rows}
use Rattle.cta_site.specs.Lookups.{class_of}
use Rattle.cta_model.specs.declared.asks.Ask.{Ask}
use Rattle.cta_model.specs.declared.asks.Ask.TheVariants as ask
use Rattle.cta_model.specs.declared.answers.Answer.{Answer}
use Rattle.cta_model.specs.declared.answers.Answer.TheVariants as answer
use Rattle.cta_model.specs.declared.answers.Refusal.TheVariants as refusal
use Rattle.cta_model.specs.declared.asks.Fate.TheVariants as fate
use Rattle.cta_model.specs.declared.asks.Direction.{Direction}
use Rattle.cta_model.specs.declared.asks.Direction.TheVariants as direction
use Rattle.cta_model.specs.declared.asks.Job.{Job}
use Rattle.cta_model.specs.declared.asks.Item.{Item}
use Rattle.cta_model.specs.declared.states.Mount.{Mount}
use Rattle.cta_model.specs.History.{History, has_text, is_empty}
use Rattle.cta_model.specs.Mounts.{item_jobs, job_of}
use Rattle.cta_model.specs.Tapes.{is_broken, may_be_repacked, size_of_items}
use Rattle.cta_site.specs.Paths.{is_path}
use Rattle.cta_model.specs.Answers.{answer_of, batch_answer, claim_answer, claim_by, claims_all, delete_answer, drop_answer, end_answer, failed_answer, failed_numbers, fate_of, flushed_answer, is_accepted, is_failed, is_known, is_last_batch, is_too_heavy, light_answer, may_be_refused_for_weight, mounted, names_twice, next_answer, on_free_tape, put_answer, recalled_answer, reclaim_answer, refuse, repack_answer, request_answer, retried_file, retried_jobs, retry_answer, weighed}
use Rattle.mismatch_laws.specs.Alike.{ask_without_found, history_without_found}
use Rattle.mismatch_laws.proofs.History.{moment_of_same, next_number_same, weight_of_entry_same, weight_of_same}
use Rattle.mismatch_laws.proofs.Files.{copy_numbers_same, live_file_same}
use Rattle.mismatch_laws.proofs.Mounts.{claimed_items_same, claims_same, is_busy_same, is_down_same, is_mounted_same, is_open_same, last_batch_same, mount_of_same}
use Rattle.mismatch_laws.proofs.Tapes.{tape_state_same}
use Rattle.mismatch_laws.proofs.Places.{live_items_on_same, was_flushed_same}
use Rattle.mismatch_laws.proofs.RepackItems.{repack_items_same}
use Rattle.mismatch_laws.proofs.Jobs.{archive_birth_same, is_live_job_same}
use Rattle.mismatch_laws.proofs.Stages.{request_of_same}
use Rattle.mismatch_laws.proofs.Repacks.{is_repack_live_same}
use Rattle.mismatch_laws.proofs.Space.{evictable_size_same, evicted_for_same, free_space_same}
use Rattle.mismatch_laws.proofs.Choice.{mount_choice_same}
use Rattle.mismatch_laws.proofs.Batches.{batch_of_same}

pub put_answer_same : (site : Site) (h : History) (t : ℕ) (path : List ℕ) (size : ℕ) → put_answer site (history_without_found h) t path size ≡ put_answer site h t path size
put_answer_same site h t path size = λ z. refuse refusal.BadPath (not (is_path path))
    (refuse refusal.NoDirectory (is_none (class_of site path))
    (refuse refusal.PathTaken (is_some (live_file_same h path z))
    (refuse refusal.NoSpace (nat_lt ((free_space_same site h z) + (evictable_size_same site h t z)) size)
    (answer.Stored (rows (evicted_for_same site h t size z))))))

pub delete_answer_same : (h : History) (path : List ℕ) → delete_answer (history_without_found h) path ≡ delete_answer h path
delete_answer_same h path = λ z. refuse refusal.NoFile (is_none (live_file_same h path z)) answer.Done

pub drop_answer_same : (site : Site) (h : History) (id : ℕ) → drop_answer site (history_without_found h) id ≡ drop_answer site h id
drop_answer_same site h id = λ z. refuse refusal.NoRequest (is_none (request_of_same site h id z)) answer.Done

pub next_answer_same : (site : Site) (h : History) (t : ℕ) (d : ℕ) → next_answer site (history_without_found h) t d ≡ next_answer site h t d
next_answer_same site h t d = λ z. refuse refusal.NoDrive (nat_le (length site.drives.items) d)
    (if (is_down_same h d z) then answer.DriveDown
    else if (is_busy_same h d z) then answer.DriveBusy
    else mounted (next_number_same h z) (mount_choice_same site h t d z))

pub batch_answer_same : (site : Site) (h : History) (t : ℕ) (way : Direction) (items : List Item) → batch_answer site (history_without_found h) t way items ≡ batch_answer site h t way items
batch_answer_same site h t way [] = refl
batch_answer_same site h t direction.Archive (i ∷ items) = refl
batch_answer_same site h t direction.Retrieve (i ∷ items) = λ z. answer.Batch (rows (i ∷ items)) (rows (evicted_for_same site h t (size_of_items (i ∷ items)) z))

pub claim_by_same : (site : Site) (h : History) (t : ℕ) (m : Option Mount) → claim_by site (history_without_found h) t m ≡ claim_by site h t m
claim_by_same site h t None = refl
claim_by_same site h t (Some m) = λ z. batch_answer_same site h t m.direction (batch_of_same site h t m z) z

pub claim_answer_same : (site : Site) (h : History) (t : ℕ) (m : ℕ) → claim_answer site (history_without_found h) t m ≡ claim_answer site h t m
claim_answer_same site h t m = λ z. refuse refusal.Unknown (not (is_open_same h m z)) (claim_by_same site h t (mount_of_same h m z) z)

pub claims_all_same : (h : History) (m : ℕ) (jobs : List Job) → claims_all (history_without_found h) m jobs ≡ claims_all h m jobs
claims_all_same h m jobs = λ z. list_all (λ z1. claims_same h m z1 z) jobs

pub is_known_same : (h : History) (m : ℕ) (jobs : List Job) → is_known (history_without_found h) m jobs ≡ is_known h m jobs
is_known_same h m jobs = λ z. (is_open_same h m z) && ((claims_all_same h m jobs z) && not (names_twice jobs))

pub fate_of_same : (site : Site) (h : History) (j : Job) → fate_of site (history_without_found h) j ≡ fate_of site h j
fate_of_same site h j = λ z. if (is_live_job_same site h j z) then fate.Done else fate.Stale

pub flushed_answer_same : (site : Site) (h : History) (m : ℕ) (items : List Item) → flushed_answer site (history_without_found h) m items ≡ flushed_answer site h m items
flushed_answer_same site h m items = λ z. refuse refusal.Unknown (not ((is_known_same h m (item_jobs items) z) && is_last_batch (last_batch_same h m z) items))
    (answer.Told (rows (map (λ (i : Item). (fate_of_same site h i.job z)) items)))

pub recalled_answer_same : (site : Site) (h : History) (m : ℕ) (j : Job) → recalled_answer site (history_without_found h) m j ≡ recalled_answer site h m j
recalled_answer_same site h m j = λ z. refuse refusal.Unknown (not (is_known_same h m (j ∷ []) z)) (answer.Arrived (fate_of_same site h j z))

pub failed_answer_same : (h : History) (m : ℕ) (jobs : List Job) → failed_answer (history_without_found h) m jobs ≡ failed_answer h m jobs
failed_answer_same h m jobs = λ z. refuse refusal.Unknown (not (is_known_same h m jobs z)) answer.Done

pub end_answer_same : (h : History) (m : ℕ) → end_answer (history_without_found h) m ≡ end_answer h m
end_answer_same h m = λ z. refuse refusal.Unknown (not ((is_open_same h m z) && is_empty (claimed_items_same h m z))) answer.Done

pub on_free_tape_same : (site : Site) (h : History) (v : ℕ) (a : Answer) → on_free_tape site (history_without_found h) v a ≡ on_free_tape site h v a
on_free_tape_same site h v a = λ z. refuse refusal.NoTape (nat_le (length site.tapes.items) v)
    (refuse refusal.TapeMounted (is_mounted_same h v z)
    (refuse refusal.TapeBroken (is_broken (tape_state_same site h v z)) a))

pub reclaim_answer_same : (site : Site) (h : History) (v : ℕ) → reclaim_answer site (history_without_found h) v ≡ reclaim_answer site h v
reclaim_answer_same site h v = λ z. on_free_tape_same site h v (refuse refusal.LiveFiles (not (is_empty (live_items_on_same h v z))) answer.Done) z

pub repack_answer_same : (site : Site) (h : History) (v : ℕ) → repack_answer site (history_without_found h) v ≡ repack_answer site h v
repack_answer_same site h v = λ z. refuse refusal.NoTape (nat_le (length site.tapes.items) v)
    (refuse refusal.NotRepacking (not (may_be_repacked (tape_state_same site h v z)))
    (refuse refusal.RepackLive (is_repack_live_same site h v z)
    (answer.Repacking (next_number_same h z) (rows (repack_items_same h v z)))))

pub is_failed_same : (site : Site) (h : History) (f : ℕ) (c : ℕ) → is_failed site (history_without_found h) f c ≡ is_failed site h f c
is_failed_same site h f c = λ z. not (was_flushed_same h f c z) && is_none (archive_birth_same site h f c z)

pub failed_numbers_same : (site : Site) (h : History) (f : ℕ) → failed_numbers site (history_without_found h) f ≡ failed_numbers site h f
failed_numbers_same site h f = λ z. filter (λ z1. is_failed_same site h f z1 z) (copy_numbers_same site h f z)

pub retried_file_same : (site : Site) (h : History) (f : Option ℕ) → retried_file site (history_without_found h) f ≡ retried_file site h f
retried_file_same site h None = refl
retried_file_same site h (Some f) = λ z. map (job_of (next_number_same h z) f) (failed_numbers_same site h f z)

pub retried_jobs_same : (site : Site) (h : History) (seen : List (List ℕ)) (paths : List (List ℕ)) → retried_jobs site (history_without_found h) seen paths ≡ retried_jobs site h seen paths
retried_jobs_same site h seen [] = refl
retried_jobs_same site h seen (p ∷ ps) = λ z. if has_text p seen then (retried_jobs_same site h seen ps z) else (retried_file_same site h (live_file_same h p z) z) ++ (retried_jobs_same site h (p ∷ seen) ps z)

pub retry_answer_same : (site : Site) (h : History) (paths : List (List ℕ)) → retry_answer site (history_without_found h) paths ≡ retry_answer site h paths
retry_answer_same site h paths = λ z. refuse refusal.NoFile (list_any (λ p. is_none (live_file_same h p z)) paths) (answer.Retried (rows (retried_jobs_same site h [] paths z)))

pub light_answer_same : (site : Site) (h : History) (t : ℕ) (k : Ask) → light_answer site (history_without_found h) t (ask_without_found k) ≡ light_answer site h t k
light_answer_same site h t (ask.Put who path sum) = λ z. put_answer_same site h t path sum.len z
light_answer_same site h t (ask.Delete who path) = λ z. delete_answer_same h path z
light_answer_same site h t (ask.Stage who files) = λ z. answer.Staged (next_number_same h z)
light_answer_same site h t (ask.Cancel who id paths) = λ z. request_answer (request_of_same site h id z) paths.items
light_answer_same site h t (ask.DropStage who id) = λ z. drop_answer_same site h id z
light_answer_same site h t (ask.Release who id paths) = λ z. request_answer (request_of_same site h id z) paths.items
light_answer_same site h t (ask.Next d) = λ z. next_answer_same site h t d z
light_answer_same site h t (ask.Claim m) = λ z. claim_answer_same site h t m z
light_answer_same site h t (ask.Flushed m items) = λ z. flushed_answer_same site h m items.items z
light_answer_same site h t (ask.Recalled m job) = λ z. recalled_answer_same site h m job z
light_answer_same site h t (ask.Failed m fault charged returned) = λ z. failed_answer_same h m (charged.items ++ returned.items) z
light_answer_same site h t (ask.End m fault) = λ z. end_answer_same h m z
light_answer_same site h t (ask.DriveUp who d) = refl
light_answer_same site h t (ask.DriveDown who d) = refl
light_answer_same site h t (ask.TapeState who v s) = λ z. on_free_tape_same site h v answer.Done z
light_answer_same site h t (ask.Reclaim who v) = λ z. reclaim_answer_same site h v z
light_answer_same site h t (ask.Repack who v) = λ z. repack_answer_same site h v z
light_answer_same site h t (ask.Retry who paths) = λ z. retry_answer_same site h paths.items z

pub may_be_refused_for_weight_same : (k : Ask) → may_be_refused_for_weight (ask_without_found k) ≡ may_be_refused_for_weight k
may_be_refused_for_weight_same (ask.Flushed m items) = refl
may_be_refused_for_weight_same (ask.Recalled m job) = refl
may_be_refused_for_weight_same (ask.Failed m fault charged returned) = refl
may_be_refused_for_weight_same (ask.End m fault) = refl
may_be_refused_for_weight_same _ = refl

pub is_too_heavy_same : (site : Site) (h : History) (k : Ask) (a : Answer) → is_too_heavy site (history_without_found h) (ask_without_found k) a ≡ is_too_heavy site h k a
is_too_heavy_same site h k a = λ z. (may_be_refused_for_weight_same k z) && (is_accepted a && nat_lt site.limits.history ((weight_of_same h z) + (weight_of_entry_same k a z)))

pub weighed_same : (site : Site) (h : History) (k : Ask) (a : Answer) → weighed site (history_without_found h) (ask_without_found k) a ≡ weighed site h k a
weighed_same site h k a = λ z. refuse refusal.HistoryFull (is_too_heavy_same site h k a z) a

pub answer_of_same : (site : Site) (h : History) (t : ℕ) (k : Ask) → answer_of site (history_without_found h) t (ask_without_found k) ≡ answer_of site h t k
answer_of_same site h t k = λ z. weighed_same site h k (light_answer_same site h (moment_of_same h t z) k z) z
