-- What a session may ask, and who has asked, is the same without what mismatches have found.
use Rattle.std.proofs.Common.{refl, ◌≡◌}
use Rattle.std.specs.Prelude.{◌+◌, ◌<◌, length, Option}
use Rattle.cta_site.specs.declared.site.Site.{Site}
use Rattle.cta_model.specs.declared.entries.Actor.TheVariants as actor
use Rattle.cta_model.specs.declared.asks.Ask.{Ask}
use Rattle.cta_model.specs.declared.asks.Ask.TheVariants as ask
use Rattle.cta_model.specs.declared.asks.Fault.{Fault}
use Rattle.cta_model.specs.declared.asks.Fault.TheVariants as fault
use Rattle.cta_model.specs.declared.asks.Direction.TheVariants as direction
use Rattle.cta_model.specs.declared.states.Mount.{Mount}
use Rattle.cta_model.specs.History.{History}
use Rattle.cta_model.specs.Legal.{IsEndFault, IsFaultOf, IsFit, IsMount, IsMountOf, actor_of}
use Rattle.mismatch_laws.specs.Alike.{without_found, ask_without_found, history_without_found}
use Rattle.mismatch_laws.proofs.Mounts.{drive_of_mount_same, mount_of_same}

pub actor_of_same : (h : History) (k : Ask) → actor_of (history_without_found h) (ask_without_found k) ≡ actor_of h k
actor_of_same h (ask.Put who path sum) = refl
actor_of_same h (ask.Delete who path) = refl
actor_of_same h (ask.Stage who files) = refl
actor_of_same h (ask.Cancel who id paths) = refl
actor_of_same h (ask.DropStage who id) = refl
actor_of_same h (ask.Release who id paths) = refl
actor_of_same h (ask.Next d) = refl
actor_of_same h (ask.Claim m) = λ z. actor.Drive (drive_of_mount_same h m z)
actor_of_same h (ask.Flushed m items) = λ z. actor.Drive (drive_of_mount_same h m z)
actor_of_same h (ask.Recalled m job) = λ z. actor.Drive (drive_of_mount_same h m z)
actor_of_same h (ask.Failed m fault charged returned) = λ z. actor.Drive (drive_of_mount_same h m z)
actor_of_same h (ask.End m fault) = λ z. actor.Drive (drive_of_mount_same h m z)
actor_of_same h (ask.DriveUp who d) = refl
actor_of_same h (ask.DriveDown who d) = refl
actor_of_same h (ask.TapeState who v s) = refl
actor_of_same h (ask.Reclaim who v) = refl
actor_of_same h (ask.Repack who v) = refl
actor_of_same h (ask.Retry who paths) = refl

pub IsFaultOf_same : (f : Fault) (m : Option Mount) → IsFaultOf (without_found f) m ≡ IsFaultOf f m
IsFaultOf_same fault.Write m = refl
IsFaultOf_same fault.Flush m = refl
IsFaultOf_same fault.Read m = refl
IsFaultOf_same (fault.Mismatch found wanted) m = refl
IsFaultOf_same fault.Load m = refl
IsFaultOf_same fault.Unload m = refl

pub IsFit_same : (site : Site) (h : History) (k : Ask) → IsFit site (history_without_found h) (ask_without_found k) ≡ IsFit site h k
IsFit_same site h (ask.Next d) = refl
IsFit_same site h (ask.Claim m) = λ z. IsMount (mount_of_same h m z)
IsFit_same site h (ask.Flushed m items) = λ z. IsMountOf direction.Archive (mount_of_same h m z)
IsFit_same site h (ask.Recalled m job) = λ z. IsMountOf direction.Retrieve (mount_of_same h m z)
IsFit_same site h (ask.Failed m fault charged returned) = λ z. (IsFaultOf_same fault (mount_of_same h m z) z) × (0 < length charged.items + length returned.items)
IsFit_same site h (ask.End m fault) = λ z. IsMount (mount_of_same h m z) × IsEndFault fault
IsFit_same site h _ = refl
