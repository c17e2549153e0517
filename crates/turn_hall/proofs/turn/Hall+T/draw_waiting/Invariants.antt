use Rattle.std.proofs.Common.{◌≡◌}
use Rattle.turn_hall.proofs.turn.Hall+T.draw_waiting.Given as goal

abbrev pub invariant-loop : goal.invariant-loop
invariant-loop g l = record {
  can : (goal.iterator-loop g).can_next l.iterator';
  ends : (goal.iterator-loop g).is_finite l.iterator';
  table : l.seat.table_id ≡ l.fn.seat.table_id;
  number : l.seat.id ≡ l.fn.seat.id;
  rests : l.seat.me ≡ l.fn.seat.me;
}
