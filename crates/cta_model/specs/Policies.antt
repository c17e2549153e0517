-- Policies of jobs.
use Rattle.std.specs.Prelude.{ℕ, Option, Some, None, slice_get}
use Rattle.cta_site.specs.declared.site.Site.{Site}
use Rattle.cta_site.specs.declared.site.Policy.{Policy}
use Rattle.cta_site.specs.Lookups.{policy_number, policy_of as policy_of_caller}
use Rattle.cta_model.specs.declared.entries.Entry.{Entry}
use Rattle.cta_model.specs.declared.entries.Actor.{Actor}
use Rattle.cta_model.specs.declared.entries.Actor.TheVariants as actor
use Rattle.cta_model.specs.declared.asks.Ask.{Ask}
use Rattle.cta_model.specs.declared.asks.Ask.TheVariants as ask
use Rattle.cta_model.specs.declared.asks.Direction.{Direction}
use Rattle.cta_model.specs.declared.asks.Direction.TheVariants as direction
use Rattle.cta_model.specs.declared.asks.Job.{Job}
use Rattle.cta_model.specs.History.{History, entry_of}

-- the number of the policy of jobs that an entry bears: the repack policy for a Repack or a Recalled, the default policy for a
-- Retry, and else that of the caller
abbrev pub policy_of_birth : Site → Actor → Ask → ℕ
policy_of_birth site a (ask.Repack who v) = policy_number site site.repack_policy
policy_of_birth site a (ask.Recalled m job) = policy_number site site.repack_policy
policy_of_birth site a (ask.Retry who paths) = policy_number site site.default_policy
policy_of_birth site (actor.Caller who) _ = policy_of_caller site who.requester who.group
policy_of_birth site (actor.Drive d) _ = policy_number site site.default_policy

-- the policy of jobs that an entry bears, none where there is no entry or no such policy
abbrev pub policy_by : Site → Option Entry → Option Policy
policy_by site None = None
policy_by site (Some e) = slice_get site.policies.items (policy_of_birth site e.actor e.ask)

-- the policy of a job: that of its birth entry
abbrev pub policy_of : Site → History → Job → Option Policy
policy_of site h j = policy_by site (entry_of h j.birth)

-- a policy's priority for a direction
abbrev pub priority_in : Direction → Option Policy → ℕ
priority_in way None = 0
priority_in direction.Archive (Some p) = p.archive_priority
priority_in direction.Retrieve (Some p) = p.retrieve_priority

-- a policy's least age for a direction, in seconds
abbrev pub age_in : Direction → Option Policy → ℕ
age_in way None = 0
age_in direction.Archive (Some p) = p.archive_min_age
age_in direction.Retrieve (Some p) = p.retrieve_min_age
