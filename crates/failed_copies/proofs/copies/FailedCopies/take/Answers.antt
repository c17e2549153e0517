use Rattle.std.proofs.Common.{◌∙◌, ap}
use Rattle.failed_copies.proofs.Told.{had, take_value}
use Rattle.failed_copies.proofs.copies.FailedCopies.take.Goals as goal

pub returns-clause-had : goal.returns-clause-had
returns-clause-had c = c.take.ensures.had ∙ had c.self.inside.forest.trees c.args.self.now.value c.row_of.result c.args.job (ap (λ v. v.value) c.self.view_is) c.row_of.ensures

pub returns-clause-value : goal.returns-clause-value
returns-clause-value c = take_value c.self.inside.forest.trees c.take.new.self.trees c.args.self.now.value c.row_of.result c.args.job (ap (λ v. v.value) c.self.view_is) c.self.invariant c.row_of.ensures c.take.ensures.trees
