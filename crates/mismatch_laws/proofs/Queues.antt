-- Queues are the same without what mismatches have found.
use Rattle.std.proofs.Common.{refl, ap, ◌∙◌, ◌≡◌, ◌∷◌, [], List, option_map, map, ℕ}
use Rattle.std.specs.Prelude.{zero, suc, ◌%◌, length, Some, is_none, ◌&&◌, filter, sum_by, slice_get}
use Rattle.cta_site.specs.declared.site.Site.{Site}
use Rattle.cta_site.specs.Lookups.{pool_of, class_of}
use Rattle.cta_model.specs.declared.asks.Direction.{Direction}
use Rattle.cta_model.specs.declared.asks.Job.{Job}
use Rattle.cta_model.specs.declared.states.Place.{Place}
use Rattle.cta_model.specs.History.{History, entry_of, moment_by, is_number}
use Rattle.cta_model.specs.Mounts.{same_direction}
use Rattle.cta_model.specs.Tapes.{may_be_read}
use Rattle.cta_model.specs.Policies.{priority_in, age_in}
use Rattle.cta_model.specs.Queues.{born_at, direction_of, highest, is_queued, key_by, key_of, least, or_else, pool_of_job, queue_age, queue_bytes, queue_of, queue_priority, sources_of, sums_of, tape_of_recall}
use Rattle.mismatch_laws.specs.Alike.{history_without_found}
use Rattle.mismatch_laws.proofs.History.{entry_of_same, moment_by_same}
use Rattle.mismatch_laws.proofs.Files.{path_of_same, size_of_same}
use Rattle.mismatch_laws.proofs.Mounts.{claimer_of_same}
use Rattle.mismatch_laws.proofs.Tapes.{tape_state_same}
use Rattle.mismatch_laws.proofs.Places.{places_of_same}
use Rattle.mismatch_laws.proofs.Charges.{charge_count_same}
use Rattle.mismatch_laws.proofs.Jobs.{is_live_job_same, jobs_born_same}
use Rattle.mismatch_laws.proofs.Policies.{policy_of_same}

pub sources_of_same : (site : Site) (h : History) (f : ℕ) → sources_of site (history_without_found h) f ≡ sources_of site h f
sources_of_same site h f = λ z. or_else (filter (λ (p : Place). may_be_read (tape_state_same site h p.tape z)) (places_of_same site h f z)) (places_of_same site h f z)

pub tape_of_recall_same : (site : Site) (h : History) (j : Job) → tape_of_recall site (history_without_found h) j ≡ tape_of_recall site h j
tape_of_recall_same site h j = λ i. option_map (λ (p : Place). p.tape) (slice_get (sources_of_same site h j.file i) (charge_count_same h j i % length (sources_of_same site h j.file i)))

pub pool_of_job_same : (site : Site) (h : History) (j : Job) → pool_of_job site (history_without_found h) j ≡ pool_of_job site h j
pool_of_job_same site h j = λ z. option_map (λ class. pool_of site class j.copy) (class_of site (path_of_same h j.file z))

pub key_by_same : (n : ℕ) (site : Site) (h : History) (j : Job) → key_by n site (history_without_found h) j ≡ key_by n site h j
key_by_same zero site h j = λ z. tape_of_recall_same site h j z
key_by_same (suc c) site h j = λ z. pool_of_job_same site h j z

pub key_of_same : (site : Site) (h : History) (j : Job) → key_of site (history_without_found h) j ≡ key_of site h j
key_of_same site h j = λ z. key_by_same j.copy site h j z

pub is_queued_same : (site : Site) (h : History) (way : Direction) (key : ℕ) (j : Job) → is_queued site (history_without_found h) way key j ≡ is_queued site h way key j
is_queued_same site h way key j = λ z. (is_live_job_same site h j z) && (same_direction way (direction_of j) && (is_none (claimer_of_same h j z) && is_number key (key_of_same site h j z)))

pub queue_of_same : (site : Site) (h : History) (way : Direction) (key : ℕ) → queue_of site (history_without_found h) way key ≡ queue_of site h way key
queue_of_same site h way key = λ z. filter (λ z1. is_queued_same site h way key z1 z) (jobs_born_same site h z)

pub queue_bytes_same : (h : History) (q : List Job) → queue_bytes (history_without_found h) q ≡ queue_bytes h q
queue_bytes_same h q = λ z. sum_by (λ (j : Job). (size_of_same h j.file z)) q

pub queue_priority_same : (site : Site) (h : History) (way : Direction) (q : List Job) → queue_priority site (history_without_found h) way q ≡ queue_priority site h way q
queue_priority_same site h way q = λ z. highest (map (λ j. priority_in way (policy_of_same site h j z)) q)

pub queue_age_same : (site : Site) (h : History) (way : Direction) (q : List Job) → queue_age site (history_without_found h) way q ≡ queue_age site h way q
queue_age_same site h way q = λ z. least (map (λ j. age_in way (policy_of_same site h j z)) q)

pub born_at_same : (h : History) (j : Job) → born_at (history_without_found h) j ≡ born_at h j
born_at_same h j = ap moment_by (entry_of_same h j.birth) ∙ moment_by_same (entry_of h j.birth)

pub sums_of_same : (site : Site) (h : History) (way : Direction) (q : List Job) → sums_of site (history_without_found h) way q ≡ sums_of site h way q
sums_of_same site h way [] = refl
sums_of_same site h way (j ∷ q) = λ z. Some (record {
  files = length (j ∷ q);
  bytes = (queue_bytes_same h (j ∷ q) z);
  least = least (map (λ (k : Job). (size_of_same h k.file z)) (j ∷ q));
  oldest = j;
  born = (born_at_same h j z);
  priority = (queue_priority_same site h way (j ∷ q) z);
  age = (queue_age_same site h way (j ∷ q) z);
})
