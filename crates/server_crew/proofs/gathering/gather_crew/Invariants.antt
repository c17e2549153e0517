-- What the workers behind the loop have given back is put together, and accounts for its links.
use Rattle.std.proofs.Common.{◌≡◌, ◌+◌, ◌≤◌, length}
use Rattle.crossbeam_queue.specs.Passes.{view as pool_view, IsPassOf as IsPoolPassOf}
use Rattle.link_pool.specs.Entries.{links_of}
use Rattle.turn_hall.specs.Handles.{IsPassOf, first_of, view}
use Rattle.link_crew.specs.Accounts.{Accounted}
use Rattle.server_crew.proofs.gathering.gather_crew.Given as goal

abbrev pub invariant-loop-one : goal.invariant-loop-one
invariant-loop-one g l = record {
  can : (goal.iterator-loop-one g).can_next l.one-iterator;
  ends : (goal.iterator-loop-one g).is_finite l.one-iterator;
  here : IsPassOf g.T.Keeps.site l.hall l.pass;
  seats : l.pass.seats ≡ l.fn.pass.seats + length l.yielded;
  seat : IsPoolPassOf l.pool.queue l.seat;
  parts : (pool_view l.seat).parts ≡ (pool_view l.fn.seat).parts + length l.yielded;
  put : (pool_view l.seat).put ≡ (pool_view l.fn.seat).put;
  full : IsPoolPassOf l.full.queue l.full_seat;
  full_parts : (pool_view l.full_seat).parts ≡ (pool_view l.fn.full_seat).parts + length l.yielded;
  accounted : Accounted g.N.Front.question g.N.Callers.is_callers g.L.Link.left g.L.Link.firm l.file_limit (g.N.Front.needs (g.T.Keeps.site (first_of l.hall))) (view l.pass).mine (links_of (pool_view l.seat).got) l.unserved;
}
