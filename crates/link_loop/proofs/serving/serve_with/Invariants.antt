use Rattle.std.proofs.Common.{◌≡◌, ◌≤◌, ◌<◌, ◌-◌, length}
use Rattle.conn.specs.Stands.{limit_of}
use Rattle.turn_hall.specs.Handles.{IsPassOf, view}
use Rattle.link_loop.specs.Served.{Session, budget, link_view, piece}
use Rattle.link_loop.proofs.serving.serve_with.Given as goal

abbrev pub invariant-pieces : goal.invariant-pieces
invariant-pieces g l = record {
  here : IsPassOf g.T.Keeps.site l.hall l.pass;
  seats : l.pass.seats ≡ l.fn.pass.seats;
  session : Session g.F.Front.question (g.F.Front.needs (g.F.Front.site l.front)) (g.F.Front.says (g.F.Front.site l.front)) (g.T.Keeps.legal (g.F.Front.site l.front)) (g.T.Keeps.plays (g.F.Front.site l.front)) l.conn l.taken (view l.fn.pass) (view l.pass) (link_view (g.L.Link.left l.fn.link) (g.L.Link.written l.fn.link) (g.L.Link.read_faults l.fn.link) (g.L.Link.write_faults l.fn.link)) (link_view (g.L.Link.left l.link) (g.L.Link.written l.link) (g.L.Link.read_faults l.link) (g.L.Link.write_faults l.link));
  limit : limit_of l.conn ≡ l.file_limit;
  within : l.taken ≤ budget;
  buffer : 0 < length l.buffer;
  short : length l.buffer ≤ piece;
  reads : g.L.Link.read_faults l.fn.link ≤ g.L.Link.read_faults l.link;
  firm : g.L.Link.firm l.link ≡ g.L.Link.firm l.fn.link;
}

abbrev pub decreases-pieces : goal.decreases-pieces
decreases-pieces g l = budget - l.taken
