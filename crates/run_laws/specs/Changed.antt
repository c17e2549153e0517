-- Reads that give other bytes than the item's, as a plan says, and how they are told.
use Rattle.std.specs.Prelude.{◌≡◌, ◌≢◌, ℕ, ◌&&◌, ◌==◌, not, slice_get, List, [], ◌∷◌, Option, None, Some, Bool, true}
use Rattle.blob.specs.Sums.{sum_of}
use Rattle.cta_site.specs.declared.site.CallKind.TheVariants as kind
use Rattle.cta_model.specs.declared.asks.Item.{Item}
use Rattle.media.specs.Drives.{Plan, alters_at}
use Rattle.media.specs.Reads.{altered}
use Rattle.drive_session.specs.declared.reports.Call.TheVariants as call
use Rattle.drive_session.specs.declared.reports.Done.{Done}
use Rattle.drive_session.specs.declared.reports.Done.TheVariants as done
use Rattle.replay.specs.Output.{run_behind}
use Rattle.replay.specs.Promises.{item_at}
use Rattle.replay.specs.Run.{Answered, Happening, Stepped}
use Rattle.replay.specs.Steps.{DriveState, RunState}

-- whether a plan alters the next read of an item that isn't empty; of an empty item it alters nothing
abbrev pub is_changed : Item → Plan → Bool
is_changed i p = alters_at kind.Read p.entries p.made && not (i.sum.len == 0)

-- the plan of a drive, where it tells one
abbrev pub plan_at : Option DriveState → Option Plan
plan_at None = None
plan_at (Some d) = d.seen.plan

-- a step in which the plan of the drive alters the read of an item that isn't empty doesn't tell that the item was read well
abbrev pub TellsChange : RunState → ℕ → Option Done → Type 0
TellsChange s drive heard =
    (i : Item) (p : Plan) (n : ℕ) → item_at (slice_get s.drives drive) ≡ Some i → plan_at (slice_get s.drives drive) ≡ Some p → is_changed i p ≡ true → heard ≢ Some (done.Ok (call.Read n))

-- so does what happens, if it is a step
abbrev pub IsChangeTold : RunState → Happening → Type 0
IsChangeTold s (Answered link moment exchange) = Unit {0}
IsChangeTold s (Stepped drive moment heard seen left) = TellsChange s drive heard

-- an altered read is told: so does each step of all that happens
abbrev pub AreChangesTold : RunState → List Happening → Type 0
AreChangesTold s [] = Unit {0}
AreChangesTold s (h ∷ hs) = IsChangeTold s h × AreChangesTold (run_behind s h) hs

-- a content that isn't empty has the same SHA-256 with its first byte altered
pub record Collides : Type 0 where
  pub content : List ℕ
  pub some : content ≢ []
  pub same : sum_of (altered content) ≡ sum_of content
