use Rattle.std.proofs.Common.{◌∙◌, ◌<◌, refl, sym, ap, arith}
use Rattle.sum_trees.specs.Nodes.{height_at}
use Rattle.sum_trees.proofs.Enters.{low_falls, high_falls}
use Rattle.sum_trees.proofs.Cuts.{can_cut_left, can_cut_right}
use Rattle.sum_trees.specs.Sums.{own_passes}
use Rattle.sum_trees.proofs.Parted.{found_left, found_here, found_right, found_nowhere}
use Rattle.sum_trees.proofs.passing.+passing_item.Goals as goal

pub returns-then-not-has_sought : goal.returns-then-not-has_sought
returns-then-not-has_sought g t c = found_nowhere g.T.Summed.sums g.T.Summed.before (g.T.Sought.passes c.args.wanted) (g.met.T.Sought.either c.args.wanted) (own_passes g.T.Summed.sums (g.T.Sought.passes c.args.wanted)) (λ y e. e) c.args.nodes.now c.args.root c.in-Some.node (sym c.node_of.ensures ∙ c.in-Some.is) (sym c.has_sought.ensures ∙ c.if-not-has_sought.true)

pub passing_item-requires : goal.passing_item-requires
passing_item-requires g t c κs within =
    let falls : height_at c.args.nodes.now c.in-Some.node.left < height_at c.args.nodes.now c.args.root = low_falls g.T.Summed.sums c.args.nodes.now c.args.root c.in-Some.node c.requires.0 (sym c.node_of.ensures ∙ c.in-Some.is) c.requires.1.stands in
    (omega arith, (within.0, (within.1.0, (within.1.1, can_cut_left g.T.Summed.sums c.args.nodes.now c.args.root c.in-Some.node (sym c.node_of.ensures ∙ c.in-Some.is) c.requires))))

pub returns-then-has_sought : goal.returns-then-has_sought
returns-then-has_sought g t c = found_here g.T.Summed.sums g.T.Summed.before (own_passes g.T.Summed.sums (g.T.Sought.passes c.args.wanted)) c.args.nodes.now c.args.root c.in-Some.node (sym c.node_of.ensures ∙ c.in-Some.is) (ap (g.T.Sought.passes c.args.wanted) (sym c.sum.ensures) ∙ sym c.has_sought-in-None-passing_item.ensures ∙ c.if-has_sought.true) c.in-None-passing_item.ensures

pub passing_item-requires-in-None-passing_item : goal.passing_item-requires-in-None-passing_item
passing_item-requires-in-None-passing_item g t c κs within =
    let falls : height_at c.args.nodes.now c.in-Some.node.right < height_at c.args.nodes.now c.args.root = high_falls g.T.Summed.sums c.args.nodes.now c.args.root c.in-Some.node c.requires.0 (sym c.node_of.ensures ∙ c.in-Some.is) c.requires.1.stands in
    (omega arith, (within.0, (within.1.0, (within.1.1, can_cut_right g.T.Summed.sums c.args.nodes.now c.args.root c.in-Some.node (sym c.node_of.ensures ∙ c.in-Some.is) c.requires))))

pub returns-in-Some-passing_item : goal.returns-in-Some-passing_item
returns-in-Some-passing_item g t c = found_left g.T.Summed.sums g.T.Summed.before (own_passes g.T.Summed.sums (g.T.Sought.passes c.args.wanted)) c.args.nodes.now c.args.root c.in-Some.node c.in-Some-passing_item.first (sym c.node_of.ensures ∙ c.in-Some.is) c.in-Some-passing_item.ensures

pub returns-else-has_sought : goal.returns-else-has_sought
returns-else-has_sought g t c = found_right g.T.Summed.sums g.T.Summed.before (own_passes g.T.Summed.sums (g.T.Sought.passes c.args.wanted)) (own_passes g.T.Summed.sums (g.T.Sought.passes c.args.wanted)) c.args.nodes.now c.args.root c.in-Some.node c.passing_item-in-None-passing_item.result (sym c.node_of.ensures ∙ c.in-Some.is) (ap (g.T.Sought.passes c.args.wanted) (sym c.sum.ensures) ∙ sym c.has_sought-in-None-passing_item.ensures ∙ c.if-has_sought.false) (λ z e. refl) c.in-None-passing_item.ensures c.passing_item-in-None-passing_item.ensures
