-- So many callers have their jobs.
use Rattle.std.specs.Prelude.{◌≤◌, All}
use Rattle.turn_hall.specs.Handles.{IsPassOf}
use Rattle.mill_crew.specs.Posts.{IsJob}
use Rattle.mill_crew.proofs.phases.caller_jobs.Given as goal

abbrev pub invariant-loop-caller : goal.invariant-loop-caller
invariant-loop-caller g l = record {
  within : l.caller ≤ l.callers;
  passes : All (IsPassOf g.T.Keeps.site l.hall) l.passes.items;
  jobs : All (IsJob g.T.Keeps.site l.hall g.D.TapeDrive.seen l.first) l.jobs.items;
}
