-- Session and drive are seated with the pass, whose calls are all asks of sessions.
use Rattle.std.proofs.Common.{◌≡◌}
use Rattle.turn_hall.specs.Handles.{IsPassOf, first_of, view}
use Rattle.drive_turns.specs.Seats.{IsSeated}
use Rattle.drive_turns.specs.Turns.{AreOfSessions}
use Rattle.drive_turns.proofs.working.repeat_steps.Given as goal

abbrev pub invariant-loop : goal.invariant-loop
invariant-loop g l = record {
  can : (goal.iterator-loop g).can_next l.iterator';
  ends : (goal.iterator-loop g).is_finite l.iterator';
  here : IsPassOf g.T.Keeps.site l.hall l.pass;
  seats : l.pass.seats ≡ l.fn.pass.seats;
  seated : IsSeated g.M.Told.told g.F.DriveFront.history g.T.Keeps.topic g.T.Keeps.adds (g.F.DriveFront.site (g.T.Keeps.site (first_of l.hall))) (view l.pass) l.session (g.D.TapeDrive.seen l.drive);
  sessions : AreOfSessions g.F.DriveFront.asking (view l.pass).mine;
}
