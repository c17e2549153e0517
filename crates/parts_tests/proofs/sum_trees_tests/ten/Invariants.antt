use Rattle.std.proofs.Common.{◌≡◌, length}
use Rattle.parts_tests.proofs.sum_trees_tests.ten.Given as goal

abbrev pub invariant-loop-number : goal.invariant-loop-number
invariant-loop-number l = length l.forest.trees ≡ length l.initial.forest.trees
