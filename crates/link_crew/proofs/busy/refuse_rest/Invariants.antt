use Rattle.std.proofs.Common.{◌<◌}
use Rattle.crossbeam_queue.specs.Passes.{view, IsPassOf}
use Rattle.link_crew.proofs.busy.refuse_rest.Given as goal

abbrev pub invariant-loop : goal.invariant-loop
invariant-loop g l = record {
  can : (goal.iterator-loop g).can_next l.iterator';
  ends : (goal.iterator-loop g).is_finite l.iterator';
  seat : IsPassOf l.full.queue l.seat;
  parts : 0 < (view l.seat).parts;
}
