-- The links that were taken are accounted for.
use Rattle.std.proofs.Common.{◌≡◌}
use Rattle.crossbeam_queue.specs.Passes.{view as pool_view}
use Rattle.link_pool.specs.Entries.{links_of}
use Rattle.turn_hall.specs.Handles.{IsPassOf, first_of, view}
use Rattle.link_crew.specs.Accounts.{Accounted}
use Rattle.link_crew.specs.Seats.{IsSeatOf}
use Rattle.link_crew.proofs.serving.work_links.Given as goal

abbrev pub invariant-loop : goal.invariant-loop
invariant-loop g l = record {
  can : (goal.iterator-loop g).can_next l.iterator';
  ends : (goal.iterator-loop g).is_finite l.iterator';
  here : IsPassOf g.T.Keeps.site l.hall l.pass;
  seats : l.pass.seats ≡ l.fn.pass.seats;
  seat : IsSeatOf l.pool.queue l.seat;
  accounted : Accounted g.F.Front.question g.F.Callers.is_callers g.L.Link.left g.L.Link.firm l.file_limit (g.F.Front.needs (g.T.Keeps.site (first_of l.hall))) (view l.pass).mine (links_of (pool_view l.seat).got) l.unserved;
}
