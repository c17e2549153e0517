-- Each drive before the loop's place has its job.
use Rattle.std.proofs.Common.{◌≡◌, ◌+◌, ◌≤◌, length}
use Rattle.std.specs.Prelude.{All}
use Rattle.server_crew.specs.Jobs.{IsJob}
use Rattle.server_crew.specs.Musters.{IsMuster}
use Rattle.server_crew.proofs.muster.muster_drives.Given as goal

abbrev pub invariant-loop-drive : goal.invariant-loop-drive
invariant-loop-drive g l = record {
  can : (goal.iterator-loop-drive g).can_next l.drive-iterator;
  ends : (goal.iterator-loop-drive g).is_finite l.drive-iterator;
  muster : IsMuster g.T.Keeps.site l.hall l.pool.queue l.full.queue l.muster;
  posts : l.muster.posts ≡ length l.yielded;
  passes : length l.muster.passes.items + length l.yielded ≡ length l.fn.muster.passes.items;
  count : l.count ≡ length l.fn.drives.items;
  jobs : All (IsJob g.T.Keeps.site l.hall l.pool.queue l.full.queue g.D.TapeDrive.seen (length l.fn.drives.items)) l.jobs.items;
  len : length l.jobs.items ≡ length l.yielded;
}
