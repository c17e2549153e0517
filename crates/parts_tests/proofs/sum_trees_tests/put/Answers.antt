use Rattle.std.proofs.Common.{◌∙◌}
use Rattle.std.specs.Prelude.{nat_lt}
use Rattle.parts_tests.specs.declared.sum_trees_tests.Number.{Number}
use Rattle.sum_trees.proofs.Grown.{item_gone}
use Rattle.parts_tests.proofs.sum_trees_tests.put.Goals as goal

pub insert-requires-clause-lacks : goal.insert-requires-clause-lacks
insert-requires-clause-lacks c = item_gone (λ (a b : Number). nat_lt a.0 b.0) (record { 0 = c.args.number }) c.args.forest.now.trees c.reserve.new.self.trees c.args.tree c.requires (c.in_ok-reserve.ensures.trees ∙ c.take-was.ensures.trees)
