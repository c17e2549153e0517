-- The files before the loop's place are fetched.
use Rattle.std.specs.Prelude.{◌≡◌, take}
use Rattle.turn_hall.specs.Handles.{IsPassOf}
use Rattle.mill_crew.specs.Contents.{AreFetched}
use Rattle.mill_crew.proofs.fetches.fetch_share.Given as goal

abbrev pub invariant-loop-sum : goal.invariant-loop-sum
invariant-loop-sum g l = record {
  here : IsPassOf g.T.Keeps.site l.hall l.pass;
  seats : l.pass.seats ≡ l.fn.pass.seats;
  fetched : AreFetched (take l.sum-index l.wanted) l.total;
}
