use Rattle.std.proofs.Common.{◌∙◌, ◌<◌, Some, ◌&&◌, sym, ap, arith}
use Rattle.std.specs.Prelude.{not}
use Rattle.sum_trees.specs.Nodes.{height_at}
use Rattle.sum_trees.proofs.Enters.{low_falls, high_falls}
use Rattle.sum_trees.proofs.Cuts.{can_cut_left, can_cut_right}
use Rattle.sum_trees.specs.Sums.{sum_of}
use Rattle.sum_trees.proofs.Orders.{leads, rising_from}
use Rattle.sum_trees.proofs.Parted.{only_high, only_low, until_fails, fails_first, fails_last, is_first, is_last, sum_of_both}
use Rattle.sum_trees.proofs.ranges.+sum_of_range.Goals as goal

pub sum_of_range-requires : goal.sum_of_range-requires
sum_of_range-requires g t c κs within =
    let falls : height_at c.args.nodes.now c.in-Some.node.right < height_at c.args.nodes.now c.args.root = high_falls g.T.Summed.sums c.args.nodes.now c.args.root c.in-Some.node c.requires.0 (sym c.node_of.ensures ∙ c.in-Some.is) c.requires.1.stands in
    (omega arith, (within.0, (within.1, can_cut_right g.T.Summed.sums c.args.nodes.now c.args.root c.in-Some.node (sym c.node_of.ensures ∙ c.in-Some.is) c.requires)))

pub returns-then-is_before : goal.returns-then-is_before
returns-then-is_before g t c = only_high g.T.Summed.sums g.T.Summed.before (λ y. not (g.T.Summed.before y c.args.low.now) && g.T.Summed.before y c.args.high.now) (sum_of g.T.Summed.sums) c.args.nodes.now c.args.root c.in-Some.node c.sum_of_range.result (sym c.node_of.ensures ∙ c.in-Some.is) (fails_first _ _ (ap not (sym c.is_before.ensures ∙ c.if-is_before.true))) (λ z e. fails_first _ _ (ap not (leads (record { one_way = g.met.T.Summed.one_way; splits = g.met.T.Summed.splits }) z c.in-Some.node.item c.args.low.now e (sym c.is_before.ensures ∙ c.if-is_before.true)))) c.sum_of_range.ensures

pub sum_of_range-requires-then-not-is_before : goal.sum_of_range-requires-then-not-is_before
sum_of_range-requires-then-not-is_before g t c κs within =
    let falls : height_at c.args.nodes.now c.in-Some.node.left < height_at c.args.nodes.now c.args.root = low_falls g.T.Summed.sums c.args.nodes.now c.args.root c.in-Some.node c.requires.0 (sym c.node_of.ensures ∙ c.in-Some.is) c.requires.1.stands in
    (omega arith, (within.0, (within.1, can_cut_left g.T.Summed.sums c.args.nodes.now c.args.root c.in-Some.node (sym c.node_of.ensures ∙ c.in-Some.is) c.requires)))

pub returns-then-not-is_before : goal.returns-then-not-is_before
returns-then-not-is_before g t c = only_low g.T.Summed.sums g.T.Summed.before (λ y. not (g.T.Summed.before y c.args.low.now) && g.T.Summed.before y c.args.high.now) (sum_of g.T.Summed.sums) c.args.nodes.now c.args.root c.in-Some.node c.sum_of_range-then-not-is_before.result (sym c.node_of.ensures ∙ c.in-Some.is) (fails_last _ _ (sym c.is_before-in-Some.ensures ∙ c.if-not-is_before.true)) (λ z e. fails_last _ _ (until_fails (record { one_way = g.met.T.Summed.one_way; splits = g.met.T.Summed.splits }) c.args.high.now c.in-Some.node.item z (sym c.is_before-in-Some.ensures ∙ c.if-not-is_before.true) e)) c.sum_of_range-then-not-is_before.ensures

pub sum_from-left-requires : goal.sum_from-left-requires
sum_from-left-requires g t c = can_cut_left g.T.Summed.sums c.args.nodes.now c.args.root c.in-Some.node (sym c.node_of.ensures ∙ c.in-Some.is) c.requires

pub sum_until-right-requires : goal.sum_until-right-requires
sum_until-right-requires g t c = can_cut_right g.T.Summed.sums c.args.nodes.now c.args.root c.in-Some.node (sym c.node_of.ensures ∙ c.in-Some.is) c.requires

pub returns-else-not-is_before : goal.returns-else-not-is_before
returns-else-not-is_before g t c =
    let whole = sum_of_both g.T.Summed.sums g.met.T.Summed.joins g.T.Summed.before (λ y. not (g.T.Summed.before y c.args.low.now) && g.T.Summed.before y c.args.high.now) (λ y. not (g.T.Summed.before y c.args.low.now)) (λ y. g.T.Summed.before y c.args.high.now) c.args.nodes.now c.args.root c.in-Some.node _ _ (sym c.node_of.ensures ∙ c.in-Some.is) (is_last _ _ (ap not (sym c.is_before.ensures ∙ c.if-is_before.false)) ∙ (sym c.is_before-in-Some.ensures ∙ c.if-not-is_before.false)) (λ z e. sym (is_first _ _ (leads (record { one_way = g.met.T.Summed.one_way; splits = g.met.T.Summed.splits }) z c.in-Some.node.item c.args.high.now e (sym c.is_before-in-Some.ensures ∙ c.if-not-is_before.false)))) (λ z e. sym (is_last _ _ (rising_from (record { one_way = g.met.T.Summed.one_way; splits = g.met.T.Summed.splits }) c.args.low.now c.in-Some.node.item z e (ap not (sym c.is_before.ensures ∙ c.if-is_before.false))))) c.sum_from-left.ensures c.sum_until-right.ensures in
    λ es tree s. ap Some c.sum_around.ensures ∙ whole es tree s
