-- Session and drive are seated with the pass.
use Rattle.std.proofs.Common.{◌≡◌}
use Rattle.turn_hall.specs.Handles.{IsPassOf, first_of, view}
use Rattle.drive_turns.specs.Seats.{IsSeated}
use Rattle.mill_crew.proofs.stepping.step_through.Given as goal

abbrev pub invariant-loop : goal.invariant-loop
invariant-loop g l = record {
  can : (goal.iterator-loop g).can_next l.iterator';
  ends : (goal.iterator-loop g).is_finite l.iterator';
  here : IsPassOf g.T.Keeps.site l.hall l.pass;
  seats : l.pass.seats ≡ l.fn.pass.seats;
  seated : IsSeated g.M.Told.told g.X.DriveFront.history g.T.Keeps.topic g.T.Keeps.adds (g.X.DriveFront.site (g.T.Keeps.site (first_of l.hall))) (view l.pass) l.session (g.D.TapeDrive.seen l.drive);
}
