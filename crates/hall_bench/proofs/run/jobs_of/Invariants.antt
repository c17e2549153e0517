use Rattle.std.proofs.Common.{◌<◌, All, length}
use Rattle.turn_hall.specs.Handles.{IsPassOf}
use Rattle.hall_bench.proofs.run.jobs_of.Given as goal

abbrev pub invariant-loop : goal.invariant-loop
invariant-loop l = record {
  some : 0 < length l.jobs.items;
  jobs : All (λ j. IsPassOf (λ c. tt) l.hall j.pass) l.jobs.items;
}
