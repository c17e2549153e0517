use Rattle.sum_trees.specs.Forests.{AreNowhere}
use Rattle.sum_trees.proofs.forest.empty_roots.Given as goal

abbrev pub invariant-loop : goal.invariant-loop
invariant-loop l = AreNowhere l.counter l.roots.items
