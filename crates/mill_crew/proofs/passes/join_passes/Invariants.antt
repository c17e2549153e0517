-- The pass is still one of the hall.
use Rattle.turn_hall.specs.Handles.{IsPassOf}
use Rattle.mill_crew.proofs.passes.join_passes.Given as goal

abbrev pub invariant-loop-other : goal.invariant-loop-other
invariant-loop-other g l = record {
  can : (goal.iterator-loop-other g).can_next l.other-iterator;
  ends : (goal.iterator-loop-other g).is_finite l.other-iterator;
  here : IsPassOf g.T.Keeps.site l.hall l.pass;
}
