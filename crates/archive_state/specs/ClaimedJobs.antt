-- The jobs that a mount claims, in order.
use Rattle.std.specs.Prelude.{ℕ, List, [], ◌∷◌, ◌++◌, Option, None, option_map, if◌then◌else◌, ◌==◌, filter}
use Rattle.cta_site.specs.declared.site.Site.{Site}
use Rattle.cta_model.specs.declared.asks.Ask.{Ask}
use Rattle.cta_model.specs.declared.asks.Ask.TheVariants as ask
use Rattle.cta_model.specs.declared.asks.Direction.{Direction}
use Rattle.cta_model.specs.declared.asks.Job.{Job}
use Rattle.cta_model.specs.declared.answers.Answer.{Answer}
use Rattle.cta_model.specs.declared.answers.Answer.TheVariants as answer
use Rattle.cta_model.specs.declared.states.Mount.{Mount}
use Rattle.cta_model.specs.History.{History}
use Rattle.cta_model.specs.Jobs.{jobs_born}
use Rattle.cta_model.specs.Mounts.{claims, is_open, item_jobs, mount_of}
use Rattle.part_model.specs.Order.{leave_out}

-- the jobs that a mount claims, in order of birth, file and copy
abbrev pub claimed_jobs : Site → History → ℕ → List Job
claimed_jobs site h m = filter (claims h m) (jobs_born site h)

-- what is told of a mount: its direction and the jobs that it claims, and nothing where it is not open
abbrev pub claimed_of : Site → History → ℕ → Option (Direction × List Job)
claimed_of site h m = if is_open h m then option_map (λ (x : Mount). (x.direction, claimed_jobs site h m)) (mount_of h m) else None

-- the jobs of the items that a mount claims after an ask, from those before it
abbrev pub jobs_after : Ask → Answer → ℕ → List Job → List Job
jobs_after (ask.Claim k) (answer.Batch items evicted) m before = if k == m then before ++ item_jobs items.items else before
jobs_after (ask.Flushed k items) a m before = if k == m then leave_out (item_jobs items.items) before else before
jobs_after (ask.Recalled k job) a m before = if k == m then leave_out (job ∷ []) before else before
jobs_after (ask.Failed k f charged returned) a m before = if k == m then leave_out returned.items (leave_out charged.items before) else before
jobs_after _ a m before = before
