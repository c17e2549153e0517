use Rattle.std.proofs.Common.{◌∙◌, ◌<◌, ◌&&◌, sym, ap, arith}
use Rattle.sum_trees.specs.Nodes.{height_at}
use Rattle.sum_trees.proofs.Enters.{low_falls, high_falls}
use Rattle.sum_trees.proofs.Cuts.{can_cut_left, can_cut_right}
use Rattle.sum_trees.specs.Sums.{own_passes}
use Rattle.sum_trees.proofs.Orders.{leads}
use Rattle.sum_trees.proofs.Parted.{found_left, found_here, found_right, found_nowhere, only_high, after_fails, fails_first, fails_last, is_last}
use Rattle.sum_trees.specs.Order.{first_of}
use Rattle.sum_trees.proofs.passing.+passing_after.Goals as goal

pub returns-then-not-has_sought : goal.returns-then-not-has_sought
returns-then-not-has_sought g t c = found_nowhere g.T.Summed.sums g.T.Summed.before (g.T.Sought.passes c.args.wanted) (g.met.T.Sought.either c.args.wanted) (λ y. g.T.Summed.before c.args.item.now y && own_passes g.T.Summed.sums (g.T.Sought.passes c.args.wanted) y) (λ y e. fails_last _ _ e) c.args.nodes.now c.args.root c.in-Some.node (sym c.node_of.ensures ∙ c.in-Some.is) (sym c.has_sought.ensures ∙ c.if-not-has_sought.true)

pub passing_after-requires : goal.passing_after-requires
passing_after-requires g t c κs within =
    let falls : height_at c.args.nodes.now c.in-Some.node.right < height_at c.args.nodes.now c.args.root = high_falls g.T.Summed.sums c.args.nodes.now c.args.root c.in-Some.node c.requires.0 (sym c.node_of.ensures ∙ c.in-Some.is) c.requires.1.stands in
    (omega arith, (within.0, (within.1.0, (within.1.1, can_cut_right g.T.Summed.sums c.args.nodes.now c.args.root c.in-Some.node (sym c.node_of.ensures ∙ c.in-Some.is) c.requires))))

pub returns-then-not-is_before : goal.returns-then-not-is_before
returns-then-not-is_before g t c = only_high g.T.Summed.sums g.T.Summed.before (λ y. g.T.Summed.before c.args.item.now y && own_passes g.T.Summed.sums (g.T.Sought.passes c.args.wanted) y) first_of c.args.nodes.now c.args.root c.in-Some.node c.passing_after.result (sym c.node_of.ensures ∙ c.in-Some.is) (fails_first _ _ (sym c.is_before.ensures ∙ c.if-not-is_before.true)) (λ z e. fails_first _ _ (after_fails (record { one_way = g.met.T.Summed.one_way; splits = g.met.T.Summed.splits }) c.args.item.now c.in-Some.node.item z (sym c.is_before.ensures ∙ c.if-not-is_before.true) e)) c.passing_after.ensures

pub passing_after-requires-in-Some : goal.passing_after-requires-in-Some
passing_after-requires-in-Some g t c κs within =
    let falls : height_at c.args.nodes.now c.in-Some.node.left < height_at c.args.nodes.now c.args.root = low_falls g.T.Summed.sums c.args.nodes.now c.args.root c.in-Some.node c.requires.0 (sym c.node_of.ensures ∙ c.in-Some.is) c.requires.1.stands in
    (omega arith, (within.0, (within.1.0, (within.1.1, can_cut_left g.T.Summed.sums c.args.nodes.now c.args.root c.in-Some.node (sym c.node_of.ensures ∙ c.in-Some.is) c.requires))))

pub returns-then-has_sought : goal.returns-then-has_sought
returns-then-has_sought g t c = found_here g.T.Summed.sums g.T.Summed.before (λ y. g.T.Summed.before c.args.item.now y && own_passes g.T.Summed.sums (g.T.Sought.passes c.args.wanted) y) c.args.nodes.now c.args.root c.in-Some.node (sym c.node_of.ensures ∙ c.in-Some.is) (is_last _ _ (sym c.is_before.ensures ∙ c.if-not-is_before.false) ∙ (ap (g.T.Sought.passes c.args.wanted) (sym c.sum.ensures) ∙ sym c.has_sought-in-None-passing_after.ensures ∙ c.if-has_sought.true)) c.in-None-passing_after.ensures

pub passing_item-requires : goal.passing_item-requires
passing_item-requires g t c = can_cut_right g.T.Summed.sums c.args.nodes.now c.args.root c.in-Some.node (sym c.node_of.ensures ∙ c.in-Some.is) c.requires

pub returns-in-Some-passing_after : goal.returns-in-Some-passing_after
returns-in-Some-passing_after g t c = found_left g.T.Summed.sums g.T.Summed.before (λ y. g.T.Summed.before c.args.item.now y && own_passes g.T.Summed.sums (g.T.Sought.passes c.args.wanted) y) c.args.nodes.now c.args.root c.in-Some.node c.in-Some-passing_after.first (sym c.node_of.ensures ∙ c.in-Some.is) c.in-Some-passing_after.ensures

pub returns-else-has_sought : goal.returns-else-has_sought
returns-else-has_sought g t c = found_right g.T.Summed.sums g.T.Summed.before (λ y. g.T.Summed.before c.args.item.now y && own_passes g.T.Summed.sums (g.T.Sought.passes c.args.wanted) y) (own_passes g.T.Summed.sums (g.T.Sought.passes c.args.wanted)) c.args.nodes.now c.args.root c.in-Some.node c.passing_item.result (sym c.node_of.ensures ∙ c.in-Some.is) (is_last _ _ (sym c.is_before.ensures ∙ c.if-not-is_before.false) ∙ (ap (g.T.Sought.passes c.args.wanted) (sym c.sum.ensures) ∙ sym c.has_sought-in-None-passing_after.ensures ∙ c.if-has_sought.false)) (λ z e. sym (is_last _ _ (leads (record { one_way = g.met.T.Summed.one_way; splits = g.met.T.Summed.splits }) c.args.item.now c.in-Some.node.item z (sym c.is_before.ensures ∙ c.if-not-is_before.false) e))) c.in-None-passing_after.ensures c.passing_item.ensures
