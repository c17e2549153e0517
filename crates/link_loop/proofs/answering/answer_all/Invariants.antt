use Rattle.std.proofs.Common.{◌≡◌, ◌<◌, ℕ, length}
use Rattle.conn.specs.Stands.{left, limit_of}
use Rattle.turn_hall.specs.Handles.{IsPassOf, view}
use Rattle.turn_hall.specs.declared.view.View.{View}
use Rattle.link_loop.specs.Served.{Session, LinkView, link_view}
use Rattle.link_loop.proofs.answering.answer_all.Given as goal

abbrev pub invariant-events : goal.invariant-events
invariant-events g l = record {
  here : IsPassOf g.T.Keeps.site l.hall l.pass;
  seats : l.pass.seats ≡ l.fn.pass.seats;
  session : (taken : ℕ) (v : View g.row.T-Site.Denot g.row.T-Entry.Denot g.row.T-Call.Denot g.row.T-Back.Denot) (a : LinkView)
      → Session g.F.Front.question (g.F.Front.needs (g.F.Front.site l.front)) (g.F.Front.says (g.F.Front.site l.front)) (g.T.Keeps.legal (g.F.Front.site l.front)) (g.T.Keeps.plays (g.F.Front.site l.front)) l.fn.conn taken v (view l.fn.pass) a (link_view (g.L.Link.left l.fn.link) (g.L.Link.written l.fn.link) (g.L.Link.read_faults l.fn.link) (g.L.Link.write_faults l.fn.link))
      → Session g.F.Front.question (g.F.Front.needs (g.F.Front.site l.front)) (g.F.Front.says (g.F.Front.site l.front)) (g.T.Keeps.legal (g.F.Front.site l.front)) (g.T.Keeps.plays (g.F.Front.site l.front)) l.conn taken v (view l.pass) a (link_view (g.L.Link.left l.link) (g.L.Link.written l.link) (g.L.Link.read_faults l.link) (g.L.Link.write_faults l.link));
  limit : limit_of l.conn ≡ limit_of l.fn.conn;
  reads : g.L.Link.read_faults l.link ≡ g.L.Link.read_faults l.fn.link;
  buffer : 0 < length l.buffer;
  firm : g.L.Link.firm l.link ≡ g.L.Link.firm l.fn.link;
}

abbrev pub decreases-events : goal.decreases-events
decreases-events g l = left l.conn
