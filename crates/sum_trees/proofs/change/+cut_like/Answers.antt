use Rattle.std.proofs.Common.{◌∙◌, ◌<◌, sym, arith}
use Rattle.sum_trees.specs.Nodes.{height_at}
use Rattle.sum_trees.proofs.Enters.{low_falls, high_falls}
use Rattle.sum_trees.proofs.Cuts.{can_cut_left, can_cut_right, none_like, none_like_left, none_like_right, can_fork_left_cut, can_fork_right_cut, left_held_cut, right_held_cut, left_like_cut, right_like_cut, can_join_root, root_like_cut}
use Rattle.sum_trees.proofs.change.+cut_like.Goals as goal

pub cut_like-requires : goal.cut_like-requires
cut_like-requires g t c κs within =
    let falls : height_at c.args.nodes.now c.in-Some.node.left < height_at c.args.nodes.now c.args.root = low_falls g.T.Summed.sums c.args.nodes.now c.args.root c.in-Some.node c.requires.0 (sym c.node_of.ensures ∙ c.in-Some.is) c.requires.1.stands in
    (omega arith, (within.0, (within.1, can_cut_left g.T.Summed.sums c.args.nodes.now c.args.root c.in-Some.node (sym c.node_of.ensures ∙ c.in-Some.is) c.requires)))

pub settle-rest-requires : goal.settle-rest-requires
settle-rest-requires g t c = (c.in-Some.node, left_held_cut g.T.Summed.sums g.T.Summed.before c.args.like.now c.args.nodes.now c.cut_like.new.nodes c.args.root c.in-Some.node c.in-Some-cut_like.cut (sym c.node_of.ensures ∙ c.in-Some.is) c.requires c.in-Some-cut_like.ensures, can_fork_left_cut g.T.Summed.sums g.T.Summed.before c.args.like.now c.args.nodes.now c.cut_like.new.nodes c.args.root c.in-Some.node c.in-Some-cut_like.cut (sym c.node_of.ensures ∙ c.in-Some.is) c.requires c.in-Some-cut_like.ensures)

pub returns-in-None-cut_like : goal.returns-in-None-cut_like
returns-in-None-cut_like g t c = none_like_left g.T.Summed.sums (record { one_way = g.met.T.Summed.one_way; splits = g.met.T.Summed.splits }) c.args.like.now c.args.nodes.now c.cut_like.new.nodes c.args.root c.in-Some.node (sym c.node_of.ensures ∙ c.in-Some.is) (sym c.is_before.ensures ∙ c.if-is_before.true) c.in-None-cut_like.ensures

pub returns-in-Some-cut_like : goal.returns-in-Some-cut_like
returns-in-Some-cut_like g t c = left_like_cut g.T.Summed.sums g.T.Summed.before c.args.like.now c.args.nodes.now c.cut_like.new.nodes c.settle-rest.new.nodes c.args.root c.in-Some.node c.in-Some-cut_like.cut c.settle-rest.result (sym c.node_of.ensures ∙ c.in-Some.is) c.in-Some-cut_like.ensures (c.settle-rest.ensures c.in-Some.node (left_held_cut g.T.Summed.sums g.T.Summed.before c.args.like.now c.args.nodes.now c.cut_like.new.nodes c.args.root c.in-Some.node c.in-Some-cut_like.cut (sym c.node_of.ensures ∙ c.in-Some.is) c.requires c.in-Some-cut_like.ensures))

pub cut_like-requires-then-is_before-2 : goal.cut_like-requires-then-is_before-2
cut_like-requires-then-is_before-2 g t c κs within =
    let falls : height_at c.args.nodes.now c.in-Some.node.right < height_at c.args.nodes.now c.args.root = high_falls g.T.Summed.sums c.args.nodes.now c.args.root c.in-Some.node c.requires.0 (sym c.node_of.ensures ∙ c.in-Some.is) c.requires.1.stands in
    (omega arith, (within.0, (within.1, can_cut_right g.T.Summed.sums c.args.nodes.now c.args.root c.in-Some.node (sym c.node_of.ensures ∙ c.in-Some.is) c.requires)))

pub settle-rest-requires-in-Some-cut_like-2 : goal.settle-rest-requires-in-Some-cut_like-2
settle-rest-requires-in-Some-cut_like-2 g t c = (c.in-Some.node, right_held_cut g.T.Summed.sums g.T.Summed.before c.args.like.now c.args.nodes.now c.cut_like-then-is_before-2.new.nodes c.args.root c.in-Some.node c.in-Some-cut_like-2.cut (sym c.node_of.ensures ∙ c.in-Some.is) c.requires c.in-Some-cut_like-2.ensures, can_fork_right_cut g.T.Summed.sums g.T.Summed.before c.args.like.now c.args.nodes.now c.cut_like-then-is_before-2.new.nodes c.args.root c.in-Some.node c.in-Some-cut_like-2.cut (sym c.node_of.ensures ∙ c.in-Some.is) c.requires c.in-Some-cut_like-2.ensures)

pub returns-in-None-cut_like-2 : goal.returns-in-None-cut_like-2
returns-in-None-cut_like-2 g t c = none_like_right g.T.Summed.sums (record { one_way = g.met.T.Summed.one_way; splits = g.met.T.Summed.splits }) c.args.like.now c.args.nodes.now c.cut_like-then-is_before-2.new.nodes c.args.root c.in-Some.node (sym c.node_of.ensures ∙ c.in-Some.is) (sym c.is_before-in-Some.ensures ∙ c.if-is_before-2.true) c.in-None-cut_like-2.ensures

pub returns-in-Some-cut_like-2 : goal.returns-in-Some-cut_like-2
returns-in-Some-cut_like-2 g t c = right_like_cut g.T.Summed.sums g.T.Summed.before c.args.like.now c.args.nodes.now c.cut_like-then-is_before-2.new.nodes c.settle-rest-in-Some-cut_like-2.new.nodes c.args.root c.in-Some.node c.in-Some-cut_like-2.cut c.settle-rest-in-Some-cut_like-2.result (sym c.node_of.ensures ∙ c.in-Some.is) c.in-Some-cut_like-2.ensures (c.settle-rest-in-Some-cut_like-2.ensures c.in-Some.node (right_held_cut g.T.Summed.sums g.T.Summed.before c.args.like.now c.args.nodes.now c.cut_like-then-is_before-2.new.nodes c.args.root c.in-Some.node c.in-Some-cut_like-2.cut (sym c.node_of.ensures ∙ c.in-Some.is) c.requires c.in-Some-cut_like-2.ensures))

pub join-rest-requires : goal.join-rest-requires
join-rest-requires g t c = can_join_root g.T.Summed.sums c.args.nodes.now c.args.root c.in-Some.node (sym c.node_of.ensures ∙ c.in-Some.is) c.requires

pub returns-in-None : goal.returns-in-None
returns-in-None g t c = none_like g.T.Summed.sums g.T.Summed.before c.args.like.now c.args.nodes.now c.args.root (sym c.node_of.ensures ∙ c.in-None.is)

pub returns-else-is_before-2 : goal.returns-else-is_before-2
returns-else-is_before-2 g t c = root_like_cut g.T.Summed.sums g.T.Summed.before c.args.like.now c.args.nodes.now c.join-rest.new.nodes c.args.root c.in-Some.node c.join-rest.result (sym c.node_of.ensures ∙ c.in-Some.is) (sym c.is_before.ensures ∙ c.if-is_before.false) (sym c.is_before-in-Some.ensures ∙ c.if-is_before-2.false) c.join-rest.ensures
