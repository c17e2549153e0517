use Rattle.std.proofs.Common.{◌≡◌, ◌≤◌, ℕ, List, length}
use Rattle.conn.specs.Cut.{Event}
use Rattle.conn.specs.Held.{IsOver, held, unread}
use Rattle.conn.specs.Stands.{Stands, StandsAt, IsShut, left}
use Rattle.conn.proofs.connection.Conn.next.Given as goal

abbrev pub invariant-steps : goal.invariant-steps
invariant-steps l = record {
  limit : l.self.limit ≡ l.fn.self.limit;
  shut : IsShut l.fn.self → IsShut l.self;
  less : left l.self ≤ left l.fn.self;
  fewer : held l.self.buffer ≤ held l.fn.self.buffer;
  over : IsOver l.self.state → held l.self.buffer ≡ 0;
  stands : (fed : List ℕ) (given : List Event) → Stands l.fn.self fed given
      → StandsAt l.self.limit l.self.state (unread l.self.buffer) fed given;
}

abbrev pub decreases-steps : goal.decreases-steps
decreases-steps l = length (unread l.self.buffer)
