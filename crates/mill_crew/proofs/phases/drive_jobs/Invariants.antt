-- Each drive before the loop's place has its job.
use Rattle.std.proofs.Common.{◌≡◌, ◌+◌, ◌≤◌, length}
use Rattle.std.specs.Prelude.{All}
use Rattle.turn_hall.specs.Handles.{IsPassOf}
use Rattle.mill_crew.specs.Posts.{IsJob}
use Rattle.mill_crew.proofs.phases.drive_jobs.Given as goal

abbrev pub invariant-loop-drive : goal.invariant-loop-drive
invariant-loop-drive g l = record {
  can : (goal.iterator-loop-drive g).can_next l.drive-iterator;
  ends : (goal.iterator-loop-drive g).is_finite l.drive-iterator;
  number : l.number ≡ length l.yielded;
  count : l.count ≡ length l.fn.drives.items;
  passes : All (IsPassOf g.T.Keeps.site l.hall) l.passes.items;
  jobs : All (IsJob g.T.Keeps.site l.hall g.D.TapeDrive.seen (length l.fn.drives.items)) l.jobs.items;
}
