use Rattle.std.proofs.Common.{ap}
use Rattle.sum_trees.proofs.Grown.{told_root, told_passing}
use Rattle.sum_trees.proofs.forest.Forest.after.Goals as goal

pub item_after-requires : goal.item_after-requires
item_after-requires g c = told_root g.T.Summed.sums g.T.Summed.before c.self.inside.nodes.items c.as_slice.result.now c.self.inside.roots.items c.self.inside.spares c.args.tree c.index.result.now c.args.self.now.trees (record { grove = c.self.invariant; rows = ap (λ v. v.trees) c.self.view_is; within = c.requires.tree; slice = c.as_slice.ensures.value; root = c.index.ensures })

pub returns : goal.returns
returns g c = told_passing g.T.Summed.sums g.T.Summed.before c.self.inside.nodes.items c.as_slice.result.now c.self.inside.roots.items c.self.inside.spares c.args.tree c.index.result.now c.args.self.now.trees (record { grove = c.self.invariant; rows = ap (λ v. v.trees) c.self.view_is; within = c.requires.tree; slice = c.as_slice.ensures.value; root = c.index.ensures }) (g.T.Summed.before c.args.item) c.item_after.result c.item_after.ensures
