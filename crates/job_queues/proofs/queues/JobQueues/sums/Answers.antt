use Rattle.std.proofs.Common.{◌∙◌, Some, ap}
use Rattle.job_queues.proofs.Told.{sums_told}
use Rattle.job_queues.proofs.queues.JobQueues.sums.Goals as goal

pub returns-in-Some-sum : goal.returns-in-Some-sum
returns-in-Some-sum c = ap Some c.sums_of.ensures ∙ sums_told c.self.inside.forest.trees c.args.self.now.value c.args.key c.in-Some.first c.in-Some-sum.totals (ap (λ v. v.value) c.self.view_is) c.in-Some-sum.ensures.few c.self.invariant c.in-Some.ensures c.in-Some-sum.ensures.sum
