-- The mounts that are left are the open ones, and what came so far closed the others.
use Rattle.std.proofs.Common.{◌≡◌, length, drop}
use Rattle.durable_opening.specs.Closing.{AreOpenMounts, OnlyCloses}
use Rattle.durable_opening.proofs.closing.close_mounts.Given as goal

abbrev pub invariant-loop-mount : goal.invariant-loop-mount
invariant-loop-mount g l = record {
  left : AreOpenMounts g.M.Told.told l.logged.archive.history (drop (length l.yielded) l.fn.mounts.items);
  kept : OnlyCloses l.fn.logged.archive l.logged.archive;
  first : l.logged.first ≡ l.fn.logged.first;
  closed : l.logged.closed ≡ l.fn.logged.closed;
}
