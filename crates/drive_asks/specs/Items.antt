-- The items of a Flushed, as they are carried out.
use Rattle.std.specs.Prelude.{◌≤◌, List, map, filter}
use Rattle.std.specs.List.{AllByRecursion}
use Rattle.cta_model.specs.declared.asks.Fate.{Fate}
use Rattle.cta_model.specs.declared.asks.Item.{Item}
use Rattle.cta_model.specs.declared.asks.Job.{Job}
use Rattle.cta_model.specs.Mounts.{item_jobs}
use Rattle.part_model.specs.JobRows.{JobRows}
use Rattle.part_laws.specs.Sessions.{fate_told, is_live_told}

-- an item is of a copy from 1 to 4
abbrev pub IsOfCopy : Item → Type 0
IsOfCopy i = (1 ≤ i.job.copy) × (i.job.copy ≤ 4)

-- each item is
abbrev pub AreOfCopies : List Item → Type 0
AreOfCopies items = AllByRecursion IsOfCopy items

-- the fates of items, as a job book tells them
abbrev pub fates_told : JobRows → List Item → List Fate
fates_told v items = map (λ (i : Item). fate_told v i.job) items

-- the items, each with its fate
abbrev pub with_fates : JobRows → List Item → List (Item × Fate)
with_fates v items = map (λ (i : Item). (i, fate_told v i.job)) items

-- the jobs of the items that are live, as a job book tells it
abbrev pub live_jobs : JobRows → List Item → List Job
live_jobs v items = filter (is_live_told v) (item_jobs items)
