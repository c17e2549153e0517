use Rattle.job_queues.proofs.Lines.{starts_fit, started}
use Rattle.job_queues.proofs.queues.JobQueues.new.Goals as goal

pub invariant_of-result : goal.invariant_of-result
invariant_of-result c = starts_fit c.args.keys c.in_ok-forest.forest.trees c.in_ok-forest.ensures

pub returns : goal.returns
returns c = started c.args.keys c.in_ok-forest.forest.trees c.in_ok-forest.ensures
