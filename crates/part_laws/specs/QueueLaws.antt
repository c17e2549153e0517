-- How entries move the queues.
use Rattle.std.specs.Prelude.{ℕ, ◌≡◌, ◌∷◌, false}
use Rattle.cta_site.specs.declared.site.Site.{Site}
use Rattle.cta_model.specs.History.{History}
use Rattle.cta_model.specs.Legal.{IsLegal}
use Rattle.cta_model.specs.declared.entries.Entry.{Entry}
use Rattle.cta_site.specs.Listed.{Listed}
use Rattle.cta_model.specs.declared.asks.Item.{Item}
use Rattle.cta_model.specs.declared.asks.Direction.{Direction}
use Rattle.cta_model.specs.Queues.{queue_of, sums_of}
use Rattle.cta_model.specs.Choice.{some_job_fits}
use Rattle.part_model.specs.Queues.{Lines, fits_in, line_sums}
use Rattle.part_laws.specs.Lines.{AreLines}
use Rattle.cta_laws.specs.Changes.{may_change_jobs, may_change_claims, may_change_keys}
use Rattle.cta_model.specs.declared.asks.Ask.TheVariants as ask

-- an ask that changes no job, no claim and no key leaves each queue
abbrev pub OthersLeaveQueues : Type 0
OthersLeaveQueues =
    (site : Site) (h : History) (e : Entry) → IsLegal site (e ∷ h) → may_change_jobs e.ask ≡ false → may_change_claims e.ask ≡ false
    → may_change_keys e.ask ≡ false → (way : Direction) (key : ℕ) → queue_of site (e ∷ h) way key ≡ queue_of site h way key

-- a Flushed leaves each queue
abbrev pub FlushedLeavesQueues : Type 0
FlushedLeavesQueues =
    (site : Site) (h : History) (e : Entry) (m : ℕ) (items : Listed Item) → IsLegal site (e ∷ h) → e.ask ≡ ask.Flushed m items
    → (way : Direction) (key : ℕ) → queue_of site (e ∷ h) way key ≡ queue_of site h way key

-- the sums of the lines of a queue are those of the queue
abbrev pub SumsTell : Type 0
SumsTell =
    (site : Site) (h : History) (way : Direction) (lines : Lines) → AreLines site h way lines
    → (key : ℕ) → line_sums (lines key) ≡ sums_of site h way (queue_of site h way key)

-- and they tell whether some job of the queue fits in the room
abbrev pub FitsTell : Type 0
FitsTell =
    (site : Site) (h : History) (way : Direction) (lines : Lines) → AreLines site h way lines
    → (key room : ℕ) → fits_in room (line_sums (lines key)) ≡ some_job_fits h (queue_of site h way key) room
