use Rattle.std.proofs.Common.{ap}
use Rattle.sum_trees.specs.Order.{is_like}
use Rattle.sum_trees.specs.Forests.{items_in}
use Rattle.sum_trees.proofs.Parted.{found_like}
use Rattle.sum_trees.proofs.Grown.{Reads, told_root, told_passing, told_sorted}
use Rattle.sum_trees.proofs.forest.Forest.get.Goals as goal

pub item_like-requires : goal.item_like-requires
item_like-requires g c = told_root g.T.Summed.sums g.T.Summed.before c.self.inside.nodes.items c.as_slice.result.now c.self.inside.roots.items c.self.inside.spares c.args.tree c.index.result.now c.args.self.now.trees (record { grove = c.self.invariant; rows = ap (λ v. v.trees) c.self.view_is; within = c.requires.tree; slice = c.as_slice.ensures.value; root = c.index.ensures })

pub returns : goal.returns
returns g c =
    let d : Reads g.T.Summed.sums g.T.Summed.before c.self.inside.nodes.items c.as_slice.result.now c.self.inside.roots.items c.self.inside.spares c.args.tree c.index.result.now c.args.self.now.trees = (record { grove = c.self.invariant; rows = ap (λ v. v.trees) c.self.view_is; within = c.requires.tree; slice = c.as_slice.ensures.value; root = c.index.ensures }) in
    record { sorted = told_sorted g.T.Summed.sums g.T.Summed.before c.self.inside.nodes.items c.as_slice.result.now c.self.inside.roots.items c.self.inside.spares c.args.tree c.index.result.now c.args.self.now.trees d; had = found_like g.T.Summed.before c.args.like (items_in c.args.self.now.trees c.args.tree) c.item_like.result (told_passing g.T.Summed.sums g.T.Summed.before c.self.inside.nodes.items c.as_slice.result.now c.self.inside.roots.items c.self.inside.spares c.args.tree c.index.result.now c.args.self.now.trees d (is_like g.T.Summed.before c.args.like) c.item_like.result c.item_like.ensures); like = told_passing g.T.Summed.sums g.T.Summed.before c.self.inside.nodes.items c.as_slice.result.now c.self.inside.roots.items c.self.inside.spares c.args.tree c.index.result.now c.args.self.now.trees d (is_like g.T.Summed.before c.args.like) c.item_like.result c.item_like.ensures }
