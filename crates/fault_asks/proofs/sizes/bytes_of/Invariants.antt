-- The bytes of the jobs that the loop has passed.
use Rattle.std.proofs.Common.{◌≡◌, take}
use Rattle.cta_laws.specs.Claims.{size_of_jobs}
use Rattle.fault_asks.proofs.sizes.bytes_of.Given as goal

abbrev pub invariant-loop-job : goal.invariant-loop-job
invariant-loop-job l = l.bytes ≡ size_of_jobs l.history.value (take l.job-index l.jobs)
