-- The policy of a job that was born by an ask with no policy of its own.
use Rattle.std.specs.Prelude.{ℕ}
use Rattle.cta_site.specs.declared.site.Site.{Site}
use Rattle.cta_site.specs.Lookups.{policy_number, policy_of}
use Rattle.cta_model.specs.declared.entries.Actor.{Actor}
use Rattle.cta_model.specs.declared.entries.Actor.TheVariants as actor

-- the number of the policy of who asked: a caller's own, and the default policy of a drive
abbrev pub policy_of_actor : Site → Actor → ℕ
policy_of_actor site (actor.Caller who) = policy_of site who.requester who.group
policy_of_actor site (actor.Drive d) = policy_number site site.default_policy
