use Rattle.std.proofs.Common.{◌∙◌, ◌<◌, Some, true, refl, sym, ap, arith}
use Rattle.std.specs.Prelude.{not}
use Rattle.sum_trees.specs.Nodes.{height_at}
use Rattle.sum_trees.proofs.Enters.{low_falls, high_falls}
use Rattle.sum_trees.proofs.Cuts.{can_cut_left, can_cut_right}
use Rattle.sum_trees.specs.Sums.{sum_of}
use Rattle.sum_trees.proofs.Orders.{leads, rising_from}
use Rattle.sum_trees.proofs.Parted.{only_high, sum_of_both, sum_of_whole}
use Rattle.sum_trees.proofs.ranges.+sum_from.Goals as goal

pub sum_from-requires : goal.sum_from-requires
sum_from-requires g t c κs within =
    let falls : height_at c.args.nodes.now c.in-Some.node.right < height_at c.args.nodes.now c.args.root = high_falls g.T.Summed.sums c.args.nodes.now c.args.root c.in-Some.node c.requires.0 (sym c.node_of.ensures ∙ c.in-Some.is) c.requires.1.stands in
    (omega arith, (within.0, (within.1, can_cut_right g.T.Summed.sums c.args.nodes.now c.args.root c.in-Some.node (sym c.node_of.ensures ∙ c.in-Some.is) c.requires)))

pub returns-then-is_before : goal.returns-then-is_before
returns-then-is_before g t c = only_high g.T.Summed.sums g.T.Summed.before (λ y. not (g.T.Summed.before y c.args.low.now)) (sum_of g.T.Summed.sums) c.args.nodes.now c.args.root c.in-Some.node c.sum_from.result (sym c.node_of.ensures ∙ c.in-Some.is) (ap not (sym c.is_before.ensures ∙ c.if-is_before.true)) (λ z e. ap not (leads (record { one_way = g.met.T.Summed.one_way; splits = g.met.T.Summed.splits }) z c.in-Some.node.item c.args.low.now e (sym c.is_before.ensures ∙ c.if-is_before.true))) c.sum_from.ensures

pub sum_from-left-requires : goal.sum_from-left-requires
sum_from-left-requires g t c κs within =
    let falls : height_at c.args.nodes.now c.in-Some.node.left < height_at c.args.nodes.now c.args.root = low_falls g.T.Summed.sums c.args.nodes.now c.args.root c.in-Some.node c.requires.0 (sym c.node_of.ensures ∙ c.in-Some.is) c.requires.1.stands in
    (omega arith, (within.0, (within.1, can_cut_left g.T.Summed.sums c.args.nodes.now c.args.root c.in-Some.node (sym c.node_of.ensures ∙ c.in-Some.is) c.requires)))

pub returns-else-is_before : goal.returns-else-is_before
returns-else-is_before g t c =
    let whole = sum_of_both g.T.Summed.sums g.met.T.Summed.joins g.T.Summed.before (λ y. not (g.T.Summed.before y c.args.low.now)) (λ y. not (g.T.Summed.before y c.args.low.now)) (λ z. true) c.args.nodes.now c.args.root c.in-Some.node _ _ (sym c.node_of.ensures ∙ c.in-Some.is) (ap not (sym c.is_before.ensures ∙ c.if-is_before.false)) (λ z e. refl) (λ z e. sym (rising_from (record { one_way = g.met.T.Summed.one_way; splits = g.met.T.Summed.splits }) c.args.low.now c.in-Some.node.item z e (ap not (sym c.is_before.ensures ∙ c.if-is_before.false)))) c.sum_from-left.ensures (sum_of_whole g.T.Summed.sums g.T.Summed.before c.args.nodes.now c.in-Some.node.right _ c.sum_of_tree-right.ensures) in
    λ es tree s. ap Some c.sum_around.ensures ∙ whole es tree s
