use Rattle.link_crew.specs.Seats.{IsSeatOf}
use Rattle.link_crew.proofs.busy.work_busy.Given as goal

abbrev pub invariant-loop : goal.invariant-loop
invariant-loop g l = record {
  can : (goal.iterator-loop g).can_next l.iterator';
  ends : (goal.iterator-loop g).is_finite l.iterator';
  seat : IsSeatOf l.full.queue l.seat;
}
