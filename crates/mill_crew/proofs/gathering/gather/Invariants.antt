-- What the workers behind the loop have given back is put together.
use Rattle.std.specs.Prelude.{◌≡◌, All, length}
use Rattle.turn_hall.specs.Handles.{IsPassOf}
use Rattle.mill_crew.specs.Contents.{file_sums}
use Rattle.mill_crew.specs.Posts.{IsUnloaded}
use Rattle.mill_crew.proofs.gathering.gather.Given as goal

abbrev pub invariant-loop-one : goal.invariant-loop-one
invariant-loop-one g l = record {
  can : (goal.iterator-loop-one g).can_next l.one-iterator;
  ends : (goal.iterator-loop-one g).is_finite l.one-iterator;
  here : IsPassOf g.T.Keeps.site l.hall l.pass;
  drives : All (IsUnloaded g.D.TapeDrive.seen) l.drives.items;
  sums : l.sums.items ≡ file_sums l.seed 0 (length l.sums.items);
}
