use Rattle.std.proofs.Common.{◌∙◌, ap}
use Rattle.sum_trees.proofs.Grown.{Reads, told_sum, told_few, told_sorted}
use Rattle.sum_trees.proofs.forest.Forest.sum.Goals as goal

pub returns : goal.returns
returns g c =
    let d : Reads g.T.Summed.sums g.T.Summed.before c.self.inside.nodes.items c.as_slice.result.now c.self.inside.roots.items c.self.inside.spares c.args.tree c.index.result.now c.args.self.now.trees = (record { grove = c.self.invariant; rows = ap (λ v. v.trees) c.self.view_is; within = c.requires.tree; slice = c.as_slice.ensures.value; root = c.index.ensures }) in
    record { few = told_few g.T.Summed.sums g.T.Summed.before c.self.inside.nodes.items c.as_slice.result.now c.self.inside.roots.items c.self.inside.spares c.args.tree c.index.result.now c.args.self.now.trees d; sorted = told_sorted g.T.Summed.sums g.T.Summed.before c.self.inside.nodes.items c.as_slice.result.now c.self.inside.roots.items c.self.inside.spares c.args.tree c.index.result.now c.args.self.now.trees d; sum = c.sum_of_tree.ensures ∙ told_sum g.T.Summed.sums g.T.Summed.before c.self.inside.nodes.items c.as_slice.result.now c.self.inside.roots.items c.self.inside.spares c.args.tree c.index.result.now c.args.self.now.trees d }
