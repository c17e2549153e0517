-- The copies of the jobs that the loop has passed are taken out.
use Rattle.std.proofs.Common.{◌≡◌, take}
use Rattle.part_model.specs.Failed.{removed_copies}
use Rattle.fault_asks.proofs.retried.take_all.Given as goal

abbrev pub invariant-loop-job : goal.invariant-loop-job
invariant-loop-job l = l.failed.value ≡ removed_copies (take l.job-index l.jobs) l.initial.failed.value
