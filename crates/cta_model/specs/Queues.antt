-- Queues. The key of an archive queue is a pool, that of a recall queue is a tape.
use Rattle.std.specs.Prelude.{ℕ, zero, suc, ◌%◌, length, List, [], ◌∷◌, Option, Some, None, option_map, is_none, Bool, ◌&&◌, filter, sum_by, min, max, map, slice_get}
use Rattle.cta_site.specs.declared.site.Site.{Site}
use Rattle.cta_site.specs.Lookups.{pool_of, class_of}
use Rattle.cta_model.specs.declared.asks.Direction.{Direction}
use Rattle.cta_model.specs.declared.asks.Direction.TheVariants as direction
use Rattle.cta_model.specs.declared.asks.Job.{Job}
use Rattle.cta_model.specs.declared.states.Place.{Place}
use Rattle.cta_model.specs.declared.states.Sums.{Sums}
use Rattle.cta_model.specs.History.{History, entry_of, moment_by, is_number}
use Rattle.cta_model.specs.Files.{path_of, size_of}
use Rattle.cta_model.specs.Mounts.{claimer_of, same_direction}
use Rattle.cta_model.specs.Tapes.{tape_state, may_be_read}
use Rattle.cta_model.specs.Places.{places_of}
use Rattle.cta_model.specs.Charges.{charges_of}
use Rattle.cta_model.specs.Jobs.{is_live_job, jobs_born}
use Rattle.cta_model.specs.Policies.{policy_of, priority_in, age_in}

-- ---- keys

-- the first list, or the second where the first is empty
abbrev pub or_else : {A : Type 0} → List A → List A → List A
or_else [] ys = ys
or_else (x ∷ xs) ys = x ∷ xs

-- the sources of a file: its places on tapes that may be read, or all its places where there is none of these
abbrev pub sources_of : Site → History → ℕ → List Place
sources_of site h f = or_else (filter (λ (p : Place). may_be_read (tape_state site h p.tape)) (places_of site h f)) (places_of site h f)

-- a recall's tape: that of source number `charges mod sources`, counted from 0
abbrev pub tape_of_recall : Site → History → Job → Option ℕ
tape_of_recall site h j = option_map (λ (p : Place). p.tape) (slice_get (sources_of site h j.file) (length (charges_of h j) % length (sources_of site h j.file)))

-- an archive job's pool: that of its class and copy
abbrev pub pool_of_job : Site → History → Job → Option ℕ
pool_of_job site h j = option_map (λ class. pool_of site class j.copy) (class_of site (path_of h j.file))

-- the key of a job of this copy: the tape of the recall for copy 0, and the pool for any other
abbrev pub key_by : ℕ → Site → History → Job → Option ℕ
key_by zero site h j = tape_of_recall site h j
key_by (suc c) site h j = pool_of_job site h j

-- the key of a job
abbrev pub key_of : Site → History → Job → Option ℕ
key_of site h j = key_by j.copy site h j

-- the direction of a job of this copy: retrieve for copy 0, and archive for any other
abbrev pub way_by : ℕ → Direction
way_by zero = direction.Retrieve
way_by (suc c) = direction.Archive

-- which way a job goes
abbrev pub direction_of : Job → Direction
direction_of j = way_by j.copy

-- a job is queued under a key where it is live, goes this way, is claimed by no mount, and has the key
abbrev pub is_queued : Site → History → Direction → ℕ → Job → Bool
is_queued site h way key j = is_live_job site h j && (same_direction way (direction_of j) && (is_none (claimer_of h j) && is_number key (key_of site h j)))

-- the queue of a key, in order of birth, file and copy
abbrev pub queue_of : Site → History → Direction → ℕ → List Job
queue_of site h way key = filter (is_queued site h way key) (jobs_born site h)

-- ---- sums of a queue

-- the bytes of a queue
abbrev pub queue_bytes : History → List Job → ℕ
queue_bytes h q = sum_by (λ (j : Job). size_of h j.file) q

-- the highest of the numbers, 0 where there are none
abbrev pub highest : List ℕ → ℕ
highest [] = 0
highest (n ∷ ns) = max n (highest ns)

-- the least of the numbers, 0 where there are none
abbrev pub least : List ℕ → ℕ
least [] = 0
least (n ∷ []) = n
least (n ∷ m ∷ ns) = min n (least (m ∷ ns))

-- a queue's priority: the highest of its jobs'
abbrev pub queue_priority : Site → History → Direction → List Job → ℕ
queue_priority site h way q = highest (map (λ j. priority_in way (policy_of site h j)) q)

-- a queue's least age: the least of its jobs' minimum ages
abbrev pub queue_age : Site → History → Direction → List Job → ℕ
queue_age site h way q = least (map (λ j. age_in way (policy_of site h j)) q)

-- the moment of a job's birth
abbrev pub born_at : History → Job → ℕ
born_at h j = moment_by (entry_of h j.birth)

-- the sums of a queue, none where it is empty
abbrev pub sums_of : Site → History → Direction → List Job → Option Sums
sums_of site h way [] = None
sums_of site h way (j ∷ q) = Some (record {
  files = length (j ∷ q);
  bytes = queue_bytes h (j ∷ q);
  least = least (map (λ (k : Job). size_of h k.file) (j ∷ q));
  oldest = j;
  born = born_at h j;
  priority = queue_priority site h way (j ∷ q);
  age = queue_age site h way (j ∷ q);
})
