use Rattle.std.proofs.Common.{◌≡◌, ◌∙◌, ◌<◌, ◌+◌, ◌^◌, sym, ap, arith}
use Rattle.sum_trees.specs.Nodes.{height_at, height_in}
use Rattle.sum_trees.proofs.Turns.{height_fits, can_here, settled}
use Rattle.sum_trees.proofs.balance.settle.Goals as goal

pub overflow_add-high : goal.overflow_add-high
overflow_add-high g c =
    let h = height_fits g.T.Summed.sums c.args.nodes.now c.args.at c.in-Some.node.item c.args.left c.args.right (can_here g.T.Summed.sums c.args.nodes.now c.args.at c.in-Some.node c.args.left c.args.right c.requires (sym c.node_of.ensures ∙ c.in-Some.is)) in
    let fits : height_at c.args.nodes.now c.args.right + 1 < 2 ^ 32 = h.1 in
    let is : c.height_in-high.result ≡ height_at c.args.nodes.now c.args.right = c.height_in-high.ensures ∙ ap height_in c.node_of-after.ensures in
    omega arith

pub overflow_add-low : goal.overflow_add-low
overflow_add-low g c =
    let h = height_fits g.T.Summed.sums c.args.nodes.now c.args.at c.in-Some.node.item c.args.left c.args.right (can_here g.T.Summed.sums c.args.nodes.now c.args.at c.in-Some.node c.args.left c.args.right c.requires (sym c.node_of.ensures ∙ c.in-Some.is)) in
    let fits : height_at c.args.nodes.now c.args.left + 1 < 2 ^ 32 = h.0 in
    let is : c.height_in-low.result ≡ height_at c.args.nodes.now c.args.left = c.height_in-low.ensures ∙ ap height_in c.node_of-before.ensures in
    omega arith

pub fork_round-requires : goal.fork_round-requires
fork_round-requires g c = record {
  fork = can_here g.T.Summed.sums c.args.nodes.now c.args.at c.in-Some.node c.args.left c.args.right c.requires (sym c.node_of.ensures ∙ c.in-Some.is);
  left = c.node_of-before.ensures;
  right = c.node_of-after.ensures;
}

pub returns : goal.returns
returns g c = settled g.T.Summed.sums c.args.nodes.now c.fork_round.new.nodes c.args.at c.in-Some.node c.args.left c.args.right c.args.at (sym c.node_of.ensures ∙ c.in-Some.is) c.fork_round.ensures
