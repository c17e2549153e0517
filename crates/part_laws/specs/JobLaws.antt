-- How asks move the job book, the queues and the counts.
use Rattle.std.specs.Prelude.{ℕ, List, Option, Some, false, [], ◌∷◌, ◌≡◌}
use Rattle.blob.specs.declared.sum.Sum256.{Sum256}
use Rattle.cta_model.specs.Files.{live_file}
use Rattle.cta_model.specs.History.{History}
use Rattle.cta_model.specs.Legal.{IsLegal}
use Rattle.cta_model.specs.Mounts.{mount_of}
use Rattle.cta_model.specs.declared.asks.Direction.{Direction}
use Rattle.cta_model.specs.declared.asks.Fault.{Fault}
use Rattle.cta_model.specs.declared.asks.Item.{Item}
use Rattle.cta_model.specs.declared.asks.Job.{Job}
use Rattle.cta_model.specs.declared.asks.Who.{Who}
use Rattle.cta_model.specs.declared.entries.Entry.{Entry}
use Rattle.cta_model.specs.declared.states.Mount.{Mount}
use Rattle.cta_site.specs.Listed.{Listed}
use Rattle.cta_site.specs.declared.site.Site.{Site}
use Rattle.cta_model.specs.declared.answers.Answer.TheVariants as answer
use Rattle.cta_model.specs.declared.asks.Ask.TheVariants as ask
use Rattle.cta_model.specs.declared.asks.Fate.TheVariants as fate
use Rattle.part_laws.specs.JobParts.{JobParts, JobPartsStand, after_claim, after_delete, after_end, after_failed, after_flushed, after_next, after_put, after_stale, no_job_parts}
use Rattle.cta_laws.specs.Changes.{may_change_claims, may_change_jobs, may_change_keys, may_change_mounts, may_charge}

-- a Put adds its jobs to the book, and at the ends of the queues of their pools
abbrev pub PutMovesParts : Type 0
PutMovesParts =
    (site : Site) (h : History) (e : Entry) (who : Who) (path : List ℕ) (sum : Sum256) (p : JobParts) → IsLegal site (e ∷ h)
    → e.ask ≡ ask.Put who path sum → JobPartsStand site h p → JobPartsStand site (e ∷ h) (after_put site h (e ∷ h) path p)

-- a Delete ends the live jobs of the file, and takes them out of their queues
abbrev pub DeleteMovesParts : Type 0
DeleteMovesParts =
    (site : Site) (h : History) (e : Entry) (who : Who) (path : List ℕ) (g : ℕ) (p : JobParts) → IsLegal site (e ∷ h)
    → e.ask ≡ ask.Delete who path → live_file h path ≡ Some g → JobPartsStand site h p
    → JobPartsStand site (e ∷ h) (after_delete site h g p)

-- a Next counts its mount
abbrev pub NextMovesParts : Type 0
NextMovesParts =
    (site : Site) (h : History) (e : Entry) (d m : ℕ) (way : Direction) (v : ℕ) (p : JobParts) → IsLegal site (e ∷ h) → e.ask ≡ ask.Next d
    → e.answer ≡ answer.Mounted m way v → JobPartsStand site h p
    → JobPartsStand site (e ∷ h) (after_next site (record { drive = d; direction = way; tape = v }) p)

-- an End counts its mount no more
abbrev pub EndMovesParts : Type 0
EndMovesParts =
    (site : Site) (h : History) (e : Entry) (m : ℕ) (fault : Option Fault) (x : Mount) (p : JobParts) → IsLegal site (e ∷ h)
    → e.ask ≡ ask.End m fault → mount_of h m ≡ Some x → JobPartsStand site h p → JobPartsStand site (e ∷ h) (after_end site x p)

-- a Claim takes its batch out of the queue of its mount's key, and its mount claims each job of it
abbrev pub ClaimMovesParts : Type 0
ClaimMovesParts =
    (site : Site) (h : History) (e : Entry) (m : ℕ) (x : Mount) (items : Listed Item) (evicted : Listed ℕ) (p : JobParts)
    → IsLegal site (e ∷ h) → e.ask ≡ ask.Claim m → e.answer ≡ answer.Batch items evicted → mount_of h m ≡ Some x → JobPartsStand site h p
    → JobPartsStand site (e ∷ h) (after_claim site m x items.items p)

-- a Flushed gives back the jobs that it names, and ends those that were live
abbrev pub FlushedMovesParts : Type 0
FlushedMovesParts =
    (site : Site) (h : History) (e : Entry) (m : ℕ) (items : Listed Item) (p : JobParts) → IsLegal site (e ∷ h)
    → e.ask ≡ ask.Flushed m items → JobPartsStand site h p → JobPartsStand site (e ∷ h) (after_flushed site h items.items p)

-- a Failed gives back and charges jobs; those that are live still stand at their places again
abbrev pub FailedMovesParts : Type 0
FailedMovesParts =
    (site : Site) (h : History) (e : Entry) (m : ℕ) (fault : Fault) (charged returned : Listed Job) (p : JobParts) → IsLegal site (e ∷ h)
    → e.ask ≡ ask.Failed m fault charged returned → JobPartsStand site h p
    → JobPartsStand site (e ∷ h) (after_failed site h (e ∷ h) (ask.Failed m fault charged returned) m fault charged.items returned.items p)

-- a Recalled of a recall that had ended gives it back
abbrev pub StaleMovesParts : Type 0
StaleMovesParts =
    (site : Site) (h : History) (e : Entry) (m : ℕ) (job : Job) (p : JobParts) → IsLegal site (e ∷ h) → e.ask ≡ ask.Recalled m job
    → e.answer ≡ answer.Arrived fate.Stale → JobPartsStand site h p → JobPartsStand site (e ∷ h) (after_stale job p)

-- the parts of an empty history have nothing
abbrev pub PartsStartEmpty : Type 0
PartsStartEmpty = (site : Site) → JobPartsStand site [] no_job_parts

-- every other ask leaves the parts as they are
abbrev pub OthersLeaveParts : Type 0
OthersLeaveParts =
    (site : Site) (h : History) (e : Entry) (p : JobParts) → IsLegal site (e ∷ h) → may_change_jobs e.ask ≡ false
    → may_change_claims e.ask ≡ false → may_change_keys e.ask ≡ false → may_charge e.ask ≡ false → may_change_mounts e.ask ≡ false
    → JobPartsStand site h p → JobPartsStand site (e ∷ h) p
