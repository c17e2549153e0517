use Rattle.std.proofs.Common.{ap}
use Rattle.job_queues.proofs.Told.{after_none, after_some}
use Rattle.job_queues.proofs.queues.JobQueues.after.Goals as goal

pub returns-in-None : goal.returns-in-None
returns-in-None c = after_none c.self.inside.forest.trees c.args.self.now.value c.args.key c.line_like.result c.args.job (ap (λ v. v.value) c.self.view_is) c.line_like.ensures c.in-None.ensures

pub returns-in-Some : goal.returns-in-Some
returns-in-Some c = after_some c.self.inside.forest.trees c.args.self.now.value c.args.key c.line_like.result c.in-Some.next c.args.job (ap (λ v. v.value) c.self.view_is) c.line_like.ensures c.in-Some.ensures
