use Rattle.std.proofs.Common.{◌++◌, length, ap, take, drop}
use Rattle.sum_trees.proofs.Grown.{Reads}
use Rattle.sum_trees.proofs.InPlace.{can_set, set_grove, set_trees}
use Rattle.sum_trees.proofs.forest.Forest.replace.Goals as goal

pub set_like-requires : goal.set_like-requires
set_like-requires g c = can_set g.T.Summed.sums g.T.Summed.before c.self.inside.nodes.items c.as_mut_slice.result.now c.self.inside.roots.items c.self.inside.spares c.args.tree c.index-root.result.now c.args.self.now.trees (record { grove = c.self.invariant; rows = ap (λ v. v.trees) c.self.view_is; within = c.requires.tree; slice = c.as_mut_slice.ensures.value; root = c.index-root.ensures })

pub invariant_of-self : goal.invariant_of-self
invariant_of-self g c = (set_grove g.T.Summed.sums (record { one_way = g.met.T.Summed.one_way; splits = g.met.T.Summed.splits }) c.self.inside.nodes.items c.as_mut_slice.result.now c.set_like.new.nodes c.self.inside.roots.items c.self.inside.spares c.args.tree c.index-root.result.now c.args.self.now.trees c.args.item c.self.inside.nodes.len (record { grove = c.self.invariant; rows = ap (λ v. v.trees) c.self.view_is; within = c.requires.tree; slice = c.as_mut_slice.ensures.value; root = c.index-root.ensures }) c.set_like.auto.nodes c.as_mut_slice.ensures.len c.set_like.ensures).grove

pub returns-clause-trees : goal.returns-clause-trees
returns-clause-trees g c =
    let d : Reads g.T.Summed.sums g.T.Summed.before c.self.inside.nodes.items c.as_mut_slice.result.now c.self.inside.roots.items c.self.inside.spares c.args.tree c.index-root.result.now c.args.self.now.trees = (record { grove = c.self.invariant; rows = ap (λ v. v.trees) c.self.view_is; within = c.requires.tree; slice = c.as_mut_slice.ensures.value; root = c.index-root.ensures }) in
    set_trees g.T.Summed.sums g.T.Summed.before c.self.inside.nodes.items c.as_mut_slice.result.now (take c.self.inside.nodes.len (c.set_like.new.nodes ++ drop (length c.set_like.new.nodes) c.self.inside.nodes.items)) c.self.inside.roots.items c.self.inside.spares c.args.tree c.index-root.result.now c.args.self.now.trees c.args.item d
    (set_grove g.T.Summed.sums (record { one_way = g.met.T.Summed.one_way; splits = g.met.T.Summed.splits }) c.self.inside.nodes.items c.as_mut_slice.result.now c.set_like.new.nodes c.self.inside.roots.items c.self.inside.spares c.args.tree c.index-root.result.now c.args.self.now.trees c.args.item c.self.inside.nodes.len d c.set_like.auto.nodes c.as_mut_slice.ensures.len c.set_like.ensures)
