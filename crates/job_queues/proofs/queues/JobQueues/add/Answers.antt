use Rattle.std.proofs.Common.{ap}
use Rattle.job_queues.proofs.Lines.{lacks_like, add_fits, add_lines}
use Rattle.job_queues.proofs.queues.JobQueues.add.Goals as goal

pub insert-requires-clause-lacks : goal.insert-requires-clause-lacks
insert-requires-clause-lacks c = lacks_like c.self.inside.forest.trees c.args.self.now.value c.args.key (record { len = c.args.line.len; born = c.args.line.born; age = c.args.line.age; priority = c.args.line.priority; job = c.args.line.job }) (ap (λ v. v.value) c.self.view_is) c.requires.lacks

pub invariant_of-self : goal.invariant_of-self
invariant_of-self c = add_fits c.self.inside.forest.trees c.insert.new.self.trees c.args.self.now.value c.args.key (record { len = c.args.line.len; born = c.args.line.born; age = c.args.line.age; priority = c.args.line.priority; job = c.args.line.job }) (ap (λ v. v.value) c.self.view_is) c.requires.key c.insert.ensures.trees c.requires.fits c.self.invariant

pub returns-clause-lines : goal.returns-clause-lines
returns-clause-lines c = add_lines c.self.inside.forest.trees c.insert.new.self.trees c.args.self.now.value c.args.key (record { len = c.args.line.len; born = c.args.line.born; age = c.args.line.age; priority = c.args.line.priority; job = c.args.line.job }) (ap (λ v. v.value) c.self.view_is) c.requires.key c.insert.ensures.trees
