use Rattle.std.proofs.Common.{ap, ◌&&◌}
use Rattle.std.specs.Prelude.{not}
use Rattle.sum_trees.proofs.Grown.{told_root, told_range}
use Rattle.sum_trees.proofs.forest.Forest.sum_between.Goals as goal

pub sum_of_range-requires : goal.sum_of_range-requires
sum_of_range-requires g c = told_root g.T.Summed.sums g.T.Summed.before c.self.inside.nodes.items c.as_slice.result.now c.self.inside.roots.items c.self.inside.spares c.args.tree c.index.result.now c.args.self.now.trees (record { grove = c.self.invariant; rows = ap (λ v. v.trees) c.self.view_is; within = c.requires.tree; slice = c.as_slice.ensures.value; root = c.index.ensures })

pub returns : goal.returns
returns g c = told_range g.T.Summed.sums g.T.Summed.before c.self.inside.nodes.items c.as_slice.result.now c.self.inside.roots.items c.self.inside.spares c.args.tree c.index.result.now c.args.self.now.trees (record { grove = c.self.invariant; rows = ap (λ v. v.trees) c.self.view_is; within = c.requires.tree; slice = c.as_slice.ensures.value; root = c.index.ensures }) (λ y. not (g.T.Summed.before y c.args.low) && g.T.Summed.before y c.args.high) c.sum_of_range.result c.sum_of_range.ensures
