-- Legal histories.
use Rattle.std.specs.Prelude.{ℕ, ◌+◌, ◌≡◌, ◌≤◌, ◌<◌, [], ◌∷◌, length, true, Option, Some, None}
use Rattle.cta_site.specs.declared.site.Site.{Site}
use Rattle.cta_model.specs.declared.entries.Entry.{Entry}
use Rattle.cta_model.specs.declared.entries.Actor.{Actor}
use Rattle.cta_model.specs.declared.entries.Actor.TheVariants as actor
use Rattle.cta_model.specs.declared.asks.Ask.{Ask}
use Rattle.cta_model.specs.declared.asks.Ask.TheVariants as ask
use Rattle.cta_model.specs.declared.asks.Fault.{Fault}
use Rattle.cta_model.specs.declared.asks.Fault.TheVariants as fault
use Rattle.cta_model.specs.declared.asks.Direction.{Direction}
use Rattle.cta_model.specs.declared.asks.Direction.TheVariants as direction
use Rattle.cta_model.specs.declared.states.Mount.{Mount}
use Rattle.cta_model.specs.declared.answers.Answer.{Answer}
use Rattle.cta_model.specs.History.{History, last_moment, moment_of}
use Rattle.cta_model.specs.Mounts.{mount_of, drive_of_mount}
use Rattle.cta_model.specs.Answers.{answer_of, is_accepted}

-- the greatest moment: the last second of the year 9999
abbrev pub greatest_moment : ℕ
greatest_moment = 253402300799

-- who asks: the drive of a session's ask, and the caller of any other
abbrev pub actor_of : History → Ask → Actor
actor_of h (ask.Put who path sum) = actor.Caller who
actor_of h (ask.Delete who path) = actor.Caller who
actor_of h (ask.Stage who files) = actor.Caller who
actor_of h (ask.Cancel who id paths) = actor.Caller who
actor_of h (ask.DropStage who id) = actor.Caller who
actor_of h (ask.Release who id paths) = actor.Caller who
actor_of h (ask.Next d) = actor.Drive d
actor_of h (ask.Claim m) = actor.Drive (drive_of_mount h m)
actor_of h (ask.Flushed m items) = actor.Drive (drive_of_mount h m)
actor_of h (ask.Recalled m job) = actor.Drive (drive_of_mount h m)
actor_of h (ask.Failed m fault charged returned) = actor.Drive (drive_of_mount h m)
actor_of h (ask.End m fault) = actor.Drive (drive_of_mount h m)
actor_of h (ask.DriveUp who d) = actor.Caller who
actor_of h (ask.DriveDown who d) = actor.Caller who
actor_of h (ask.TapeState who v s) = actor.Caller who
actor_of h (ask.Reclaim who v) = actor.Caller who
actor_of h (ask.Repack who v) = actor.Caller who
actor_of h (ask.Retry who paths) = actor.Caller who

-- the mount is the history's
abbrev pub IsMount : Option Mount → Type 0
IsMount None = ⊥
IsMount (Some m) = Unit {0}

-- the mount is the history's and goes this way
abbrev pub IsMountOf : Direction → Option Mount → Type 0
IsMountOf way None = ⊥
IsMountOf way (Some m) = m.direction ≡ way

-- a writing mount fails in a write or a flush, and a reading one in a read or by a mismatch
abbrev pub IsFaultOf : Fault → Option Mount → Type 0
IsFaultOf fault.Write m = IsMountOf direction.Archive m
IsFaultOf fault.Flush m = IsMountOf direction.Archive m
IsFaultOf fault.Read m = IsMountOf direction.Retrieve m
IsFaultOf (fault.Mismatch found wanted) m = IsMountOf direction.Retrieve m
IsFaultOf fault.Load m = ⊥
IsFaultOf fault.Unload m = ⊥

-- a mount ends with no fault, or with one of the load or unload
abbrev pub IsEndFault : Option Fault → Type 0
IsEndFault None = Unit {0}
IsEndFault (Some fault.Load) = Unit {0}
IsEndFault (Some fault.Unload) = Unit {0}
IsEndFault (Some _) = ⊥

-- what a session keeps when it asks; callers may ask anything
abbrev pub IsFit : Site → History → Ask → Type 0
IsFit site h (ask.Next d) = d < length site.drives.items
IsFit site h (ask.Claim m) = IsMount (mount_of h m)
IsFit site h (ask.Flushed m items) = IsMountOf direction.Archive (mount_of h m)
IsFit site h (ask.Recalled m job) = IsMountOf direction.Retrieve (mount_of h m)
IsFit site h (ask.Failed m fault charged returned) = IsFaultOf fault (mount_of h m) × (0 < length charged.items + length returned.items)
IsFit site h (ask.End m fault) = IsMount (mount_of h m) × IsEndFault fault
IsFit site h _ = Unit {0}

-- the entry e may follow the entries h: its moment does not fall, its actor is the one who asked, and its answer is the accepted
-- answer of the sequential archive on h
pub record IsNext (site : Site) (h : History) (e : Entry) : Type 0 where
  pub later : last_moment h ≤ e.at
  pub within : e.at ≤ greatest_moment
  pub by : e.actor ≡ actor_of h e.ask
  pub fit : IsFit site h e.ask
  pub answered : e.answer ≡ answer_of site h e.at e.ask
  pub accepted : is_accepted e.answer ≡ true

-- a history is legal where each entry may follow those before it
abbrev pub IsLegal : Site → History → Type 0
IsLegal site [] = Unit {0}
IsLegal site (e ∷ h) = IsLegal site h × IsNext site h e

-- the entry that an accepted ask appends
abbrev pub new_entry : History → ℕ → Ask → Answer → Entry
new_entry h t k a = record { at = moment_of h t; actor = actor_of h k; ask = k; answer = a }
