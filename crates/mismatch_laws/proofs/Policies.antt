-- Policies of jobs are the same without what mismatches have found.
use Rattle.std.proofs.Common.{refl, ap, ◌∙◌, ◌≡◌, option_map}
use Rattle.std.specs.Prelude.{Option, Some, None, slice_get}
use Rattle.cta_site.specs.declared.site.Site.{Site}
use Rattle.cta_model.specs.declared.entries.Entry.{Entry}
use Rattle.cta_model.specs.declared.entries.Actor.{Actor}
use Rattle.cta_model.specs.declared.entries.Actor.TheVariants as actor
use Rattle.cta_model.specs.declared.asks.Ask.{Ask}
use Rattle.cta_model.specs.declared.asks.Ask.TheVariants as ask
use Rattle.cta_model.specs.declared.asks.Job.{Job}
use Rattle.cta_model.specs.History.{History, entry_of}
use Rattle.cta_model.specs.Policies.{policy_by, policy_of, policy_of_birth}
use Rattle.mismatch_laws.specs.Alike.{ask_without_found, entry_without_found, history_without_found}
use Rattle.mismatch_laws.proofs.History.{entry_of_same}

pub policy_of_birth_same : (site : Site) (a : Actor) (k : Ask) → policy_of_birth site a (ask_without_found k) ≡ policy_of_birth site a k
policy_of_birth_same site a (ask.Repack who v) = refl
policy_of_birth_same site a (ask.Recalled m job) = refl
policy_of_birth_same site a (ask.Retry who paths) = refl
policy_of_birth_same site (actor.Caller who) _ = refl
policy_of_birth_same site (actor.Drive d) _ = refl

pub policy_by_same : (site : Site) (o : Option Entry) → policy_by site (option_map entry_without_found o) ≡ policy_by site o
policy_by_same site None = refl
policy_by_same site (Some e) = λ z. slice_get site.policies.items (policy_of_birth_same site e.actor e.ask z)

pub policy_of_same : (site : Site) (h : History) (j : Job) → policy_of site (history_without_found h) j ≡ policy_of site h j
policy_of_same site h j = ap (policy_by site) (entry_of_same h j.birth) ∙ policy_by_same site (entry_of h j.birth)
