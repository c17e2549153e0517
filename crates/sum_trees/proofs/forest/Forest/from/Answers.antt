use Rattle.std.proofs.Common.{ap}
use Rattle.std.specs.Prelude.{not}
use Rattle.sum_trees.proofs.Grown.{Reads, told_root, told_passing, told_sorted}
use Rattle.sum_trees.proofs.forest.Forest.from.Goals as goal

pub item_from-requires : goal.item_from-requires
item_from-requires g c = told_root g.T.Summed.sums g.T.Summed.before c.self.inside.nodes.items c.as_slice.result.now c.self.inside.roots.items c.self.inside.spares c.args.tree c.index.result.now c.args.self.now.trees (record { grove = c.self.invariant; rows = ap (λ v. v.trees) c.self.view_is; within = c.requires.tree; slice = c.as_slice.ensures.value; root = c.index.ensures })

pub returns : goal.returns
returns g c =
    let d : Reads g.T.Summed.sums g.T.Summed.before c.self.inside.nodes.items c.as_slice.result.now c.self.inside.roots.items c.self.inside.spares c.args.tree c.index.result.now c.args.self.now.trees = (record { grove = c.self.invariant; rows = ap (λ v. v.trees) c.self.view_is; within = c.requires.tree; slice = c.as_slice.ensures.value; root = c.index.ensures }) in
    record { sorted = told_sorted g.T.Summed.sums g.T.Summed.before c.self.inside.nodes.items c.as_slice.result.now c.self.inside.roots.items c.self.inside.spares c.args.tree c.index.result.now c.args.self.now.trees d; from = told_passing g.T.Summed.sums g.T.Summed.before c.self.inside.nodes.items c.as_slice.result.now c.self.inside.roots.items c.self.inside.spares c.args.tree c.index.result.now c.args.self.now.trees d (λ y. not (g.T.Summed.before y c.args.item)) c.item_from.result c.item_from.ensures }
