use Rattle.std.proofs.Common.{ap}
use Rattle.sum_trees.proofs.Grown.{told_root, told_first}
use Rattle.sum_trees.proofs.forest.Forest.first.Goals as goal

pub first_item-requires : goal.first_item-requires
first_item-requires g c = told_root g.T.Summed.sums g.T.Summed.before c.self.inside.nodes.items c.as_slice.result.now c.self.inside.roots.items c.self.inside.spares c.args.tree c.index.result.now c.args.self.now.trees (record { grove = c.self.invariant; rows = ap (λ v. v.trees) c.self.view_is; within = c.requires.tree; slice = c.as_slice.ensures.value; root = c.index.ensures })

pub returns : goal.returns
returns g c = told_first g.T.Summed.sums g.T.Summed.before c.self.inside.nodes.items c.as_slice.result.now c.self.inside.roots.items c.self.inside.spares c.args.tree c.index.result.now c.args.self.now.trees (record { grove = c.self.invariant; rows = ap (λ v. v.trees) c.self.view_is; within = c.requires.tree; slice = c.as_slice.ensures.value; root = c.index.ensures }) c.first_item.result c.first_item.ensures
