-- The states of a repack's items, in a map by file and copy.
use Rattle.std.specs.Prelude.{ℕ, ◌≡◌, ◌<◌, List, Option, Bool, true, ◌==◌, ◌&&◌, if◌then◌else◌, is_some, length, map, unwrap_or}
use Rattle.std.specs.Map.{lookup}
use Rattle.cta_model.specs.declared.asks.Job.{Job}
use Rattle.cta_model.specs.declared.reports.ItemState.{ItemState}
use Rattle.cta_model.specs.declared.reports.ItemState.TheVariants as item
use Rattle.cta_model.specs.declared.states.RepackCopy.{RepackCopy}
use Rattle.cta_model.specs.Mounts.{has_copy}
use Rattle.cta_model.specs.Repacks.{is_live_item}

-- states by file and copy
abbrev pub States : Type 0
States = List ((ℕ × ℕ) × ItemState)

-- whether a file and a copy are these
abbrev pub is_pair : ℕ → ℕ → ℕ × ℕ → Bool
is_pair f c k = f == k.0 && c == k.1

-- the state of a copy of a file
abbrev pub state_at : States → ℕ → ℕ → Option ItemState
state_at states f c = lookup (is_pair f c) states

-- the item of a job, in the state of its copy
abbrev pub item_at : States → Job → RepackCopy
item_at states j = record { file = j.file; copy = j.copy; state = unwrap_or (state_at states j.file j.copy) item.Gone }

-- the items of jobs
abbrev pub items_of : States → List Job → List RepackCopy
items_of states jobs = map (item_at states) jobs

-- a state that is turned where the test holds and it is live
abbrev pub turned_if : Bool → ItemState → ItemState → ItemState
turned_if b new s = if b && is_live_item s then new else s

-- exactly the copies of the jobs have a state, copies are below 256, and each job has a path
pub record AreStates (states : States) (jobs : List Job) (paths : List (List ℕ)) : Type 0 where
  pub known : (f c : ℕ) → is_some (state_at states f c) ≡ has_copy f c jobs
  pub low : (f c : ℕ) → has_copy f c jobs ≡ true → c < 256
  pub named : length paths ≡ length jobs
