-- So many workers have their jobs.
use Rattle.std.proofs.Common.{◌≡◌, ◌+◌, ◌≤◌, length}
use Rattle.std.specs.Prelude.{All}
use Rattle.server_crew.specs.Jobs.{IsJob}
use Rattle.server_crew.specs.Musters.{IsMuster}
use Rattle.server_crew.proofs.muster.muster_links.Given as goal

abbrev pub invariant-loop-worker : goal.invariant-loop-worker
invariant-loop-worker g l = record {
  muster : IsMuster g.T.Keeps.site l.hall l.pool.queue l.full.queue l.muster;
  within : l._worker ≤ l.workers;
  posts : l.muster.posts ≡ l.fn.muster.posts + l._worker;
  passes : length l.muster.passes.items + l._worker ≡ length l.fn.muster.passes.items;
  jobs : All (IsJob g.T.Keeps.site l.hall l.pool.queue l.full.queue g.D.TapeDrive.seen l.fn.muster.posts) l.jobs.items;
  len : length l.jobs.items ≡ length l.fn.jobs.items + l._worker;
}
