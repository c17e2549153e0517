use Rattle.std.proofs.Common.{◌∙◌, ◌<◌, Some, true, refl, sym, ap, arith}
use Rattle.sum_trees.specs.Nodes.{height_at}
use Rattle.sum_trees.proofs.Enters.{low_falls, high_falls}
use Rattle.sum_trees.proofs.Cuts.{can_cut_left, can_cut_right}
use Rattle.sum_trees.specs.Sums.{sum_of}
use Rattle.sum_trees.proofs.Orders.{leads}
use Rattle.sum_trees.proofs.Parted.{only_low, until_fails, sum_of_both, sum_of_whole}
use Rattle.sum_trees.proofs.ranges.+sum_until.Goals as goal

pub sum_until-requires : goal.sum_until-requires
sum_until-requires g t c κs within =
    let falls : height_at c.args.nodes.now c.in-Some.node.left < height_at c.args.nodes.now c.args.root = low_falls g.T.Summed.sums c.args.nodes.now c.args.root c.in-Some.node c.requires.0 (sym c.node_of.ensures ∙ c.in-Some.is) c.requires.1.stands in
    (omega arith, (within.0, (within.1, can_cut_left g.T.Summed.sums c.args.nodes.now c.args.root c.in-Some.node (sym c.node_of.ensures ∙ c.in-Some.is) c.requires)))

pub returns-then-not-is_before : goal.returns-then-not-is_before
returns-then-not-is_before g t c = only_low g.T.Summed.sums g.T.Summed.before (λ y. g.T.Summed.before y c.args.high.now) (sum_of g.T.Summed.sums) c.args.nodes.now c.args.root c.in-Some.node c.sum_until.result (sym c.node_of.ensures ∙ c.in-Some.is) (sym c.is_before.ensures ∙ c.if-not-is_before.true) (λ z e. until_fails (record { one_way = g.met.T.Summed.one_way; splits = g.met.T.Summed.splits }) c.args.high.now c.in-Some.node.item z (sym c.is_before.ensures ∙ c.if-not-is_before.true) e) c.sum_until.ensures

pub sum_until-right-requires : goal.sum_until-right-requires
sum_until-right-requires g t c κs within =
    let falls : height_at c.args.nodes.now c.in-Some.node.right < height_at c.args.nodes.now c.args.root = high_falls g.T.Summed.sums c.args.nodes.now c.args.root c.in-Some.node c.requires.0 (sym c.node_of.ensures ∙ c.in-Some.is) c.requires.1.stands in
    (omega arith, (within.0, (within.1, can_cut_right g.T.Summed.sums c.args.nodes.now c.args.root c.in-Some.node (sym c.node_of.ensures ∙ c.in-Some.is) c.requires)))

pub returns-else-not-is_before : goal.returns-else-not-is_before
returns-else-not-is_before g t c =
    let whole = sum_of_both g.T.Summed.sums g.met.T.Summed.joins g.T.Summed.before (λ y. g.T.Summed.before y c.args.high.now) (λ z. true) (λ y. g.T.Summed.before y c.args.high.now) c.args.nodes.now c.args.root c.in-Some.node _ _ (sym c.node_of.ensures ∙ c.in-Some.is) (sym c.is_before.ensures ∙ c.if-not-is_before.false) (λ z e. sym (leads (record { one_way = g.met.T.Summed.one_way; splits = g.met.T.Summed.splits }) z c.in-Some.node.item c.args.high.now e (sym c.is_before.ensures ∙ c.if-not-is_before.false))) (λ z e. refl) (sum_of_whole g.T.Summed.sums g.T.Summed.before c.args.nodes.now c.in-Some.node.left _ c.sum_of_tree-left.ensures) c.sum_until-right.ensures in
    λ es tree s. ap Some c.sum_around.ensures ∙ whole es tree s
