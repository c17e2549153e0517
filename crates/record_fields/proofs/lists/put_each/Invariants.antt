use Rattle.std.specs.Prelude.{◌≡◌, ◌++◌, List, ℕ, drop}
use Rattle.std.specs.List.{AllByRecursion}
use Rattle.record_fields.specs.Lists.{each_before}
use Rattle.record_fields.proofs.lists.put_each.Given as goal

abbrev pub invariant-loop-item : goal.invariant-loop-item
invariant-loop-item g l = record {
  fits : AllByRecursion g.F.Field.fits (drop l.item-index l.items) → AllByRecursion g.F.Field.fits l.items;
  bytes : (rest : List ℕ) → l.out.items ++ each_before g.F.Field.before (drop l.item-index l.items) rest ≡ l.initial.out.items ++ each_before g.F.Field.before l.items rest;
}
