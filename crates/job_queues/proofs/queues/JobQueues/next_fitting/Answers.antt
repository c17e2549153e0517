use Rattle.std.proofs.Common.{◌∙◌, ap, Some}
use Rattle.job_queues.proofs.Fits.{next_fits, none_next}
use Rattle.job_queues.proofs.queues.JobQueues.next_fitting.Goals as goal

pub returns-in-None : goal.returns-in-None
returns-in-None c = none_next c.self.inside.forest.trees c.args.self.now.value c.args.key c.args.room c.line_like.result c.args.job (ap (λ v. v.value) c.self.view_is) c.line_like.ensures c.in-None.ensures.next

pub returns-in-Some : goal.returns-in-Some
returns-in-Some c = ap Some c.line_of.ensures ∙ next_fits c.self.inside.forest.trees c.args.self.now.value c.args.key c.args.room c.line_like.result c.in-Some.queued c.args.job (ap (λ v. v.value) c.self.view_is) c.line_like.ensures c.in-Some.ensures.next
