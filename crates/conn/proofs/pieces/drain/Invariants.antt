use Rattle.std.proofs.Common.{◌≡◌, ℕ, List}
use Rattle.conn.specs.Stands.{Stands, given_by, left, limit_of}
use Rattle.conn.proofs.pieces.drain.Given as goal

abbrev pub invariant-answers : goal.invariant-answers
invariant-answers l = record {
  limit : limit_of l.conn ≡ limit_of l.fn.conn;
  stands : (fed : List ℕ) → Stands l.fn.conn fed (given_by l.fn.out.items) → Stands l.conn fed (given_by l.out.items);
}

abbrev pub decreases-answers : goal.decreases-answers
decreases-answers l = left l.conn
