use Rattle.std.proofs.Common.{◌∙◌, ap}
use Rattle.failed_copies.proofs.OfFile.{of_none, of_some, of_other}
use Rattle.failed_copies.proofs.copies.FailedCopies.of_file.Goals as goal

pub returns-in-None : goal.returns-in-None
returns-in-None c = of_none c.self.inside.forest.trees c.args.self.now.value c.args.file (ap (λ v. v.value) c.self.view_is) c.in-None.ensures.from

pub returns-then-next-file : goal.returns-then-next-file
returns-then-next-file c = (ap (λ j. j.file) c.job_of_row.ensures ∙ c.if-next-file.true, of_some c.self.inside.forest.trees c.args.self.now.value c.args.file c.in-Some.next c.job_of_row.result (ap (λ v. v.value) c.self.view_is) c.job_of_row.ensures c.in-Some.ensures.from)

pub returns-else-next-file : goal.returns-else-next-file
returns-else-next-file c = of_other c.self.inside.forest.trees c.args.self.now.value c.args.file c.in-Some.next (ap (λ v. v.value) c.self.view_is) c.in-Some.ensures.sorted c.in-Some.ensures.from c.if-next-file.false
