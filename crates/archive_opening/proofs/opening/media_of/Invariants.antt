-- The media that the loop has made.
use Rattle.std.proofs.Common.{◌≡◌}
use Rattle.media.specs.Made.{IsNewMedium}
use Rattle.archive_opening.proofs.Numbered.{Numbered}
use Rattle.archive_opening.proofs.opening.media_of.Given as goal

abbrev pub invariant-loop-tape : goal.invariant-loop-tape
invariant-loop-tape g l = record {
  made : Numbered (λ v m. IsNewMedium (g.B.Bench.tells l.initial.bench) v (g.D.Medium.Told.told m)) l.tape l.media.items;
  tells : g.B.Bench.tells l.bench ≡ g.B.Bench.tells l.initial.bench;
}
