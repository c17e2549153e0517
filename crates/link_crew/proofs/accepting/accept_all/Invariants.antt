-- The links that were told and are gone from the listener were put through the door, as long as the pool has room for all of them.
use Rattle.std.proofs.Common.{◌≡◌, ◌≤◌, List, true}
use Rattle.std.specs.Prelude.{Some}
use Rattle.crossbeam_queue.specs.Passes.{view, IsPassOf}
use Rattle.link_crew.specs.Seats.{IsSameDoor}
use Rattle.link_crew.proofs.Doors.{HavePutFirst}
use Rattle.link_crew.proofs.accepting.accept_all.Given as goal

abbrev pub invariant-loop : goal.invariant-loop
invariant-loop g l = record {
  can : (goal.iterator-loop g).can_next l.iterator';
  ends : (goal.iterator-loop g).is_finite l.iterator';
  here : IsPassOf l.pool.queue l.door;
  door : (view l.door).door ≡ true;
  same : IsSameDoor (view l.fn.door) (view l.door);
  here_full : IsPassOf l.full.queue l.full_door;
  door_full : (view l.full_door).door ≡ true;
  same_full : IsSameDoor (view l.fn.full_door) (view l.full_door);
  faults : g.L.Listener.faults l.fn.listener ≤ g.L.Listener.faults l.listener;
  put : (links : List g.row.K.Denot) → g.L.Listener.left l.fn.listener ≡ Some links → HavePutFirst l.pool.queue.cap links (g.L.Listener.left l.listener) (view l.fn.door) (view l.door);
}
