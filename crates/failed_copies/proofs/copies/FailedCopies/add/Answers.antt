use Rattle.std.proofs.Common.{ap}
use Rattle.failed_copies.proofs.Told.{lacks, add_value}
use Rattle.failed_copies.proofs.copies.FailedCopies.add.Goals as goal

pub insert-requires-clause-lacks : goal.insert-requires-clause-lacks
insert-requires-clause-lacks c = lacks c.self.inside.forest.trees c.args.self.now.value c.row_of.result c.args.job (ap (λ v. v.value) c.self.view_is) c.row_of.ensures c.requires.lacks

pub returns-clause-value : goal.returns-clause-value
returns-clause-value c = add_value c.self.inside.forest.trees c.insert.new.self.trees c.args.self.now.value c.row_of.result c.args.job (ap (λ v. v.value) c.self.view_is) c.self.invariant c.row_of.ensures c.insert.ensures.trees
