-- The media of the mounts that the loop has passed were taken.
use Rattle.std.proofs.Common.{take}
use Rattle.archive_state.proofs.Shares.{AreTaken}
use Rattle.archive_state.proofs.state.ArchiveState.take_mounted.Given as goal

abbrev pub invariant-loop-at : goal.invariant-loop-at
invariant-loop-at g l = AreTaken g.N.Told.told l.self.history (take l.at l.numbers) l.initial.shelf l.shelf l.mounts.items
