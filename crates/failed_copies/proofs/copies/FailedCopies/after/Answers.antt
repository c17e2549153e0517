use Rattle.std.proofs.Common.{◌∙◌, Some, ap}
use Rattle.failed_copies.proofs.Told.{after_none, after_some}
use Rattle.failed_copies.proofs.copies.FailedCopies.after.Goals as goal

pub returns-in-None : goal.returns-in-None
returns-in-None c = after_none c.self.inside.forest.trees c.args.self.now.value c.row_of.result c.args.job (ap (λ v. v.value) c.self.view_is) c.row_of.ensures c.in-None.ensures

pub returns-in-Some : goal.returns-in-Some
returns-in-Some c = ap Some c.job_of_row.ensures ∙ after_some c.self.inside.forest.trees c.args.self.now.value c.row_of.result c.in-Some.next c.args.job (ap (λ v. v.value) c.self.view_is) c.row_of.ensures c.in-Some.ensures
