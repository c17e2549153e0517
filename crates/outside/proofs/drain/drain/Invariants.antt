-- So many bytes were dropped, and each turn drops some.
use Rattle.std.proofs.Common.{◌-◌, ◌≤◌}
use Rattle.outside.specs.Closing.{Drops}
use Rattle.outside.proofs.drain.drain.Given as goal

abbrev pub invariant-loop-dropped : goal.invariant-loop-dropped
invariant-loop-dropped g l = (l.dropped ≤ 1_048_576) × Drops (g.S.Read.remaining l.initial.stream) (g.S.Read.remaining l.stream) l.dropped

abbrev pub decreases-loop-dropped : goal.decreases-loop-dropped
decreases-loop-dropped g l = 1_048_576 - l.dropped
