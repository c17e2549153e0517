use Rattle.std.proofs.Common.{◌≡◌, ◌∙◌, ◌<◌, Some, sym, subst, arith}
use Rattle.std.specs.Prelude.{option_map}
use Rattle.sum_trees.specs.Nodes.{height_at, item_at, node_at}
use Rattle.sum_trees.proofs.Enters.{low_falls, high_falls}
use Rattle.sum_trees.proofs.Cuts.{can_cut_left, can_cut_right}
use Rattle.sum_trees.specs.Order.{is_like, first_of}
use Rattle.sum_trees.specs.Searches.{TellsPassing}
use Rattle.sum_trees.proofs.Orders.{like_is}
use Rattle.sum_trees.proofs.Parted.{only_high, only_low, like_here, like_above, like_below, not_like_first, not_like_last}
use Rattle.sum_trees.proofs.search.+place_like.Goals as goal

pub place_like-requires : goal.place_like-requires
place_like-requires g t c κs within =
    let falls : height_at c.args.nodes.now c.in-Some.node.left < height_at c.args.nodes.now c.args.root = low_falls g.T.Summed.sums c.args.nodes.now c.args.root c.in-Some.node c.requires.0 (sym c.node_of.ensures ∙ c.in-Some.is) c.requires.1.stands in
    (omega arith, (within.0, (within.1, can_cut_left g.T.Summed.sums c.args.nodes.now c.args.root c.in-Some.node (sym c.node_of.ensures ∙ c.in-Some.is) c.requires)))

pub returns-then-is_before : goal.returns-then-is_before
returns-then-is_before g t c = only_low g.T.Summed.sums g.T.Summed.before (is_like g.T.Summed.before c.args.like.now) first_of c.args.nodes.now c.args.root c.in-Some.node (item_at c.args.nodes.now c.place_like.result) (sym c.node_of.ensures ∙ c.in-Some.is) (not_like_first _ _ (sym c.is_before.ensures ∙ c.if-is_before.true)) (λ z e. like_above (record { one_way = g.met.T.Summed.one_way; splits = g.met.T.Summed.splits }) c.args.like.now c.in-Some.node.item z (sym c.is_before.ensures ∙ c.if-is_before.true) e) c.place_like.ensures

pub place_like-requires-then-is_before-2 : goal.place_like-requires-then-is_before-2
place_like-requires-then-is_before-2 g t c κs within =
    let falls : height_at c.args.nodes.now c.in-Some.node.right < height_at c.args.nodes.now c.args.root = high_falls g.T.Summed.sums c.args.nodes.now c.args.root c.in-Some.node c.requires.0 (sym c.node_of.ensures ∙ c.in-Some.is) c.requires.1.stands in
    (omega arith, (within.0, (within.1, can_cut_right g.T.Summed.sums c.args.nodes.now c.args.root c.in-Some.node (sym c.node_of.ensures ∙ c.in-Some.is) c.requires)))

pub returns-then-is_before-2 : goal.returns-then-is_before-2
returns-then-is_before-2 g t c = only_high g.T.Summed.sums g.T.Summed.before (is_like g.T.Summed.before c.args.like.now) first_of c.args.nodes.now c.args.root c.in-Some.node (item_at c.args.nodes.now c.place_like-then-is_before-2.result) (sym c.node_of.ensures ∙ c.in-Some.is) (not_like_last _ _ (sym c.is_before-in-Some.ensures ∙ c.if-is_before-2.true)) (λ z e. like_below (record { one_way = g.met.T.Summed.one_way; splits = g.met.T.Summed.splits }) c.args.like.now c.in-Some.node.item z (sym c.is_before-in-Some.ensures ∙ c.if-is_before-2.true) e) c.place_like-then-is_before-2.ensures

pub returns-else-is_before-2 : goal.returns-else-is_before-2
returns-else-is_before-2 g t c =
    let is : node_at c.args.nodes.now c.args.root ≡ Some c.in-Some.node = sym c.node_of.ensures ∙ c.in-Some.is in
    subst (λ k. TellsPassing g.T.Summed.sums g.T.Summed.before (is_like g.T.Summed.before c.args.like.now) c.args.nodes.now c.args.root (option_map (λ n. n.item) k)) (sym is)
    (like_here g.T.Summed.sums (record { one_way = g.met.T.Summed.one_way; splits = g.met.T.Summed.splits }) c.args.nodes.now c.args.root c.in-Some.node c.args.like.now is (like_is _ _ (sym c.is_before.ensures ∙ c.if-is_before.false) (sym c.is_before-in-Some.ensures ∙ c.if-is_before-2.false)))
