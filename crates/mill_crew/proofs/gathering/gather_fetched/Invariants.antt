-- The callers behind the loop have fetched the files before its place.
use Rattle.std.specs.Prelude.{◌≡◌, take}
use Rattle.turn_hall.specs.Handles.{IsPassOf}
use Rattle.mill_crew.specs.Contents.{AreFetched}
use Rattle.mill_crew.proofs.gathering.gather_fetched.Given as goal

abbrev pub invariant-loop-one : goal.invariant-loop-one
invariant-loop-one g l = record {
  can : (goal.iterator-loop-one g).can_next l.one-iterator;
  ends : (goal.iterator-loop-one g).is_finite l.one-iterator;
  here : IsPassOf g.T.Keeps.site l.hall l.pass;
  fetched : AreFetched (take l.at l.sums) l.total;
}
