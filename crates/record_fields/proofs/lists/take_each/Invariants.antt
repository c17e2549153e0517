use Rattle.std.specs.Prelude.{◌≡◌, ◌++◌, List, ℕ, drop, length}
use Rattle.std.specs.List.{AllByRecursion}
use Rattle.record_fields.specs.Lists.{each_before}
use Rattle.record_fields.proofs.lists.take_each.Given as goal

abbrev pub invariant-loop : goal.invariant-loop
invariant-loop g l = record {
  count : length l.items.items ≡ l.counter;
  fits : AllByRecursion g.F.Field.fits l.items.items;
  bytes : l.bytes ≡ each_before g.F.Field.before l.items.items l.rest;
  ahead : (vs : List g.row.F.Denot) (rest : List ℕ) → AllByRecursion g.F.Field.fits vs → length vs ≡ l.count → l.bytes ≡ each_before g.F.Field.before vs rest → l.rest ≡ each_before g.F.Field.before (drop l.counter vs) rest;
}
