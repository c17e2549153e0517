-- The drives that the loop has made.
use Rattle.std.proofs.Common.{◌≡◌}
use Rattle.media.specs.Made.{IsNewDrive}
use Rattle.archive_opening.proofs.Numbered.{Numbered}
use Rattle.archive_opening.proofs.drives.drives_of.Given as goal

abbrev pub invariant-loop-drive : goal.invariant-loop-drive
invariant-loop-drive g l = record {
  made : Numbered (λ d x. IsNewDrive (g.B.Bench.tells l.initial.bench) l.site d (g.D.TapeDrive.seen x)) l.drive l.drives.items;
  tells : g.B.Bench.tells l.bench ≡ g.B.Bench.tells l.initial.bench;
}
