use Rattle.std.proofs.Common.{◌∙◌, ◌<◌, List, length, sym, subst, arith}
use Rattle.cta_model.specs.declared.asks.Job.{Job}
use Rattle.failed_copies.proofs.OfFile.{fewer, file_gone_with, none_of_file}
use Rattle.failed_copies.proofs.copies.FailedCopies.take_file.Goals as goal

pub loop-job-smaller : goal.loop-job-smaller
loop-job-smaller c = subst (λ (xs : List Job). length xs < length c.loop-job.self.value) (sym c.take.ensures.value) (fewer c.in-Some.job c.loop-job.self.value c.in-Some.ensures.1)

pub loop-job-preserved : goal.loop-job-preserved
loop-job-preserved c = record { others = file_gone_with c.args.file c.in-Some.job c.loop-job.self.value c.take.new.self.value c.in-Some.ensures.0 c.take.ensures.value ∙ c.loop-job.invariant.others; room = omega arith }

pub returns-clause-value : goal.returns-clause-value
returns-clause-value c = none_of_file c.args.file c.loop-job.self.value c.of_file.result c.of_file.ensures c.in_default.not-Some ∙ c.loop-job.invariant.others
