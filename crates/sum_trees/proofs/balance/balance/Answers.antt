use Rattle.std.proofs.Common.{◌<◌, ◌+◌, ◌^◌, arith}
use Rattle.sum_trees.specs.Nodes.{height_at}
use Rattle.sum_trees.proofs.Turns.{height_fits, left_is_root, right_is_root, can_left_moved, can_right_moved, left_moved_forks, right_moved_forks}
use Rattle.sum_trees.proofs.balance.balance.Goals as goal

pub overflow_add-high : goal.overflow_add-high
overflow_add-high g c = let h = height_fits g.T.Summed.sums c.args.nodes.now c.args.at c.args.item c.args.left c.args.right c.requires in let h1 : height_at c.args.nodes.now c.args.right + 1 < 2 ^ 32 = h.1 in omega arith

pub lean_left-left-requires : goal.lean_left-left-requires
lean_left-left-requires g c = left_is_root g.T.Summed.sums c.args.nodes.now c.args.at c.args.item c.args.left c.args.right c.requires

pub raise_left-requires : goal.raise_left-requires
raise_left-requires g c = can_left_moved g.T.Summed.sums c.args.nodes.now c.lean_left-left.new.nodes c.args.at c.args.item c.args.left c.args.right c.lean_left-left.result c.requires c.lean_left-left.ensures

pub returns-then-low-high : goal.returns-then-low-high
returns-then-low-high g c = left_moved_forks g.T.Summed.sums c.args.nodes.now c.lean_left-left.new.nodes c.raise_left.new.nodes c.args.at c.args.item c.args.left c.args.right c.lean_left-left.result c.raise_left.result c.lean_left-left.ensures c.raise_left.ensures

pub overflow_add-low : goal.overflow_add-low
overflow_add-low g c = let h = height_fits g.T.Summed.sums c.args.nodes.now c.args.at c.args.item c.args.left c.args.right c.requires in let h0 : height_at c.args.nodes.now c.args.left + 1 < 2 ^ 32 = h.0 in omega arith

pub lean_right-right-requires : goal.lean_right-right-requires
lean_right-right-requires g c = right_is_root g.T.Summed.sums c.args.nodes.now c.args.at c.args.item c.args.left c.args.right c.requires

pub raise_right-requires : goal.raise_right-requires
raise_right-requires g c = can_right_moved g.T.Summed.sums c.args.nodes.now c.lean_right-right.new.nodes c.args.at c.args.item c.args.left c.args.right c.lean_right-right.result c.requires c.lean_right-right.ensures

pub returns-then-high-low : goal.returns-then-high-low
returns-then-high-low g c = right_moved_forks g.T.Summed.sums c.args.nodes.now c.lean_right-right.new.nodes c.raise_right.new.nodes c.args.at c.args.item c.args.left c.args.right c.lean_right-right.result c.raise_right.result c.lean_right-right.ensures c.raise_right.ensures
