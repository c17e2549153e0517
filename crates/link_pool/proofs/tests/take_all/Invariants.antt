use Rattle.std.proofs.Common.{◌<◌}
use Rattle.crossbeam_queue.specs.Passes.{view, IsPassOf}
use Rattle.link_pool.proofs.tests.take_all.Given as goal

abbrev pub invariant-loop : goal.invariant-loop
invariant-loop g l = record {
  can : (goal.iterator-loop g).can_next l.iterator';
  ends : (goal.iterator-loop g).is_finite l.iterator';
  here : IsPassOf l.pool.queue l.worker;
  parts : 0 < (view l.worker).parts;
}
