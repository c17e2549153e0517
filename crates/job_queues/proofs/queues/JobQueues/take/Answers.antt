use Rattle.std.proofs.Common.{◌∙◌, ap}
use Rattle.job_queues.proofs.Lines.{take_fits, had_job, take_lines}
use Rattle.job_queues.proofs.queues.JobQueues.take.Goals as goal

pub invariant_of-self : goal.invariant_of-self
invariant_of-self c = take_fits c.self.inside.forest.trees c.take.new.self.trees c.args.self.now.value c.args.key c.line_like.result c.args.job (ap (λ v. v.value) c.self.view_is) c.requires.key c.line_like.ensures c.take.ensures.trees c.self.invariant

pub returns-clause-had : goal.returns-clause-had
returns-clause-had c = c.take.ensures.had ∙ had_job c.self.inside.forest.trees c.args.self.now.value c.args.key c.line_like.result c.args.job (ap (λ v. v.value) c.self.view_is) c.line_like.ensures

pub returns-clause-lines : goal.returns-clause-lines
returns-clause-lines c = take_lines c.self.inside.forest.trees c.take.new.self.trees c.args.self.now.value c.args.key c.line_like.result c.args.job (ap (λ v. v.value) c.self.view_is) c.requires.key c.line_like.ensures c.take.ensures.trees
