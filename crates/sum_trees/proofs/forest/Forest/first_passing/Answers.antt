use Rattle.std.proofs.Common.{ap}
use Rattle.sum_trees.specs.Sums.{own_passes}
use Rattle.sum_trees.proofs.Grown.{Reads, told_root, told_passing, told_sorted}
use Rattle.sum_trees.proofs.forest.Forest.first_passing.Goals as goal

pub passing_item-requires : goal.passing_item-requires
passing_item-requires g c = told_root g.T.Summed.sums g.T.Summed.before c.self.inside.nodes.items c.as_slice.result.now c.self.inside.roots.items c.self.inside.spares c.args.tree c.index.result.now c.args.self.now.trees (record { grove = c.self.invariant; rows = ap (λ v. v.trees) c.self.view_is; within = c.requires.tree; slice = c.as_slice.ensures.value; root = c.index.ensures })

pub returns : goal.returns
returns g c =
    let d : Reads g.T.Summed.sums g.T.Summed.before c.self.inside.nodes.items c.as_slice.result.now c.self.inside.roots.items c.self.inside.spares c.args.tree c.index.result.now c.args.self.now.trees = (record { grove = c.self.invariant; rows = ap (λ v. v.trees) c.self.view_is; within = c.requires.tree; slice = c.as_slice.ensures.value; root = c.index.ensures }) in
    record { sorted = told_sorted g.T.Summed.sums g.T.Summed.before c.self.inside.nodes.items c.as_slice.result.now c.self.inside.roots.items c.self.inside.spares c.args.tree c.index.result.now c.args.self.now.trees d; first = told_passing g.T.Summed.sums g.T.Summed.before c.self.inside.nodes.items c.as_slice.result.now c.self.inside.roots.items c.self.inside.spares c.args.tree c.index.result.now c.args.self.now.trees d (own_passes g.T.Summed.sums (g.T.Sought.passes c.args.wanted)) c.passing_item.result c.passing_item.ensures }
