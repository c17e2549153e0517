-- The jobs that the loop has passed are not named again.
use Rattle.std.proofs.Common.{◌≡◌}
use Rattle.std.specs.Prelude.{drop}
use Rattle.cta_model.specs.Answers.{names_twice}
use Rattle.archive_state.proofs.twice.has_twice.Given as goal

abbrev pub invariant-loop-at : goal.invariant-loop-at
invariant-loop-at l = names_twice l.jobs ≡ names_twice (drop l.at l.jobs)
