-- Recalls for which a request no longer waits.
use Rattle.std.specs.Prelude.{ℕ, ◌≡◌, List, Option, true}
use Rattle.std.specs.List.{flat_map}
use Rattle.cta_model.specs.declared.asks.Job.{Job}
use Rattle.cta_model.specs.Mounts.{has_job}
use Rattle.cta_model.specs.Recalls.{Recall, recall_job}
use Rattle.part_laws.specs.Ends.{last_of}
use Rattle.job_queues.specs.Waiting.{jobs_of}
use Rattle.part_model.specs.Queues.{Lines}
use Rattle.part_model.specs.Tapes.{Table}
use Rattle.caller_asks.specs.Jobs.{IsPlacedOn}

-- the recalls of these files, among those that are live, for which this request was the last that waited
abbrev pub lasts_of : (ℕ → Option Recall) → ℕ → List ℕ → List Job
lasts_of recalls id files = flat_map (λ (f : ℕ). last_of id f (recalls f)) files

-- a recall stands in no queue but those of the tapes on which one of the copies from 1 to n of its file has its place
abbrev pub StandsOnPlaces : Table → ℕ → Lines → Type 0
StandsOnPlaces v n tapes = (b f k : ℕ) → has_job (recall_job b f) (jobs_of (tapes k)) ≡ true → IsPlacedOn v f n k
