use Rattle.std.proofs.Common.{◌∙◌, ap, Some}
use Rattle.job_queues.proofs.Fits.{first_fits, none_fits}
use Rattle.job_queues.proofs.queues.JobQueues.first_fitting.Goals as goal

pub returns-in-None : goal.returns-in-None
returns-in-None c = none_fits c.self.inside.forest.trees c.args.self.now.value c.args.key c.args.room (ap (λ v. v.value) c.self.view_is) c.in-None.ensures.first

pub returns-in-Some : goal.returns-in-Some
returns-in-Some c = ap Some c.line_of.ensures ∙ first_fits c.self.inside.forest.trees c.args.self.now.value c.args.key c.args.room c.in-Some.queued (ap (λ v. v.value) c.self.view_is) c.in-Some.ensures.first
