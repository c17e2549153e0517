use Rattle.std.proofs.Common.{ap}
use Rattle.job_queues.proofs.Fits.{lines_sorted}
use Rattle.job_queues.proofs.queues.JobQueues.keeps_order.Goals as goal

pub returns : goal.returns
returns c = lines_sorted c.self.inside.forest.trees c.args.self.now.value c.args.key (ap (λ v. v.value) c.self.view_is) c.sum-sum.ensures.sorted
