use Rattle.std.proofs.Common.{◌≡◌, ◌+◌, length}
use mathlib.Core.List.{IsPrefix}
use Rattle.turn_hall.specs.Handles.{IsPassOf, view}
use Rattle.hall_bench.proofs.raising.raise_each.Given as goal

abbrev pub invariant-loop : goal.invariant-loop
invariant-loop g l = record {
  here : IsPassOf (λ c. tt) l.hall l.pass;
  seats : l.pass.seats ≡ l.fn.pass.seats;
  calls : length (view l.pass).mine ≡ length (view l.fn.pass).mine + l.counter;
  seen : IsPrefix (view l.fn.pass).seen (view l.pass).seen;
}
