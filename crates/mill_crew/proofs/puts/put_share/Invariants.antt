-- The files before the loop's place are put, and these are their sums.
use Rattle.std.specs.Prelude.{◌≡◌, ◌-◌, ◌≤◌}
use Rattle.turn_hall.specs.Handles.{IsPassOf}
use Rattle.load_mill.specs.Numbers.{number_behind}
use Rattle.mill_crew.specs.Contents.{file_sums}
use Rattle.mill_crew.proofs.puts.put_share.Given as goal

abbrev pub invariant-loop-index : goal.invariant-loop-index
invariant-loop-index g l = record {
  here : IsPassOf g.T.Keeps.site l.hall l.pass;
  seats : l.pass.seats ≡ l.fn.pass.seats;
  from : l.fn.share.from ≤ l.index;
  number : l.numbers.x ≡ number_behind l.fn.seed l.index;
  sums : l.sums.items ≡ file_sums l.fn.seed l.fn.share.from (l.index - l.fn.share.from);
}
