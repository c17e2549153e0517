use Rattle.std.proofs.Common.{◌≤◌, ◌-◌, ℕ, length}
use Rattle.httparse.specs.Grammar.{RequestHead}
use Rattle.conn.specs.Cut.{BodyPart}
use Rattle.conn.specs.Reading.{IsAt}
use Rattle.conn.proofs.Walks.{Walked}
use Rattle.conn.proofs.walk.body_end.Given as goal

abbrev pub invariant-steps : goal.invariant-steps
invariant-steps l = record {
  within : l.at ≤ length l.rest;
  walked : (limit : ℕ) (h : RequestHead) (p : BodyPart) → IsAt limit h p l.fn.start → Walked limit h p l.rest l.at l.place;
}

abbrev pub decreases-steps : goal.decreases-steps
decreases-steps l = length l.rest - l.at
