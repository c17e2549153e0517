-- So many callers have their jobs.
use Rattle.std.specs.Prelude.{◌≤◌, All}
use Rattle.turn_hall.specs.Handles.{IsPassOf}
use Rattle.mill_crew.specs.Posts.{IsFetcher}
use Rattle.mill_crew.proofs.phases.fetchers.Given as goal

abbrev pub invariant-loop-caller : goal.invariant-loop-caller
invariant-loop-caller g l = record {
  within : l.caller ≤ l.callers;
  passes : All (IsPassOf g.T.Keeps.site l.hall) l.passes.items;
  jobs : All (IsFetcher g.T.Keeps.site l.hall) l.jobs.items;
}
