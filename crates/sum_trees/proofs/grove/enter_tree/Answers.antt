use Rattle.std.proofs.Common.{List}
use Rattle.sum_trees.specs.Changes.{Entered}
use Rattle.sum_trees.specs.declared.nodes.Node.{Node}
use Rattle.sum_trees.proofs.Grown.{written_as, written_length}
use Rattle.sum_trees.proofs.grove.enter_tree.Goals as goal

pub returns-clause-entered : goal.returns-clause-entered
returns-clause-entered g c = written_as (λ (a b : List (Node g.row.T.Denot g.row.T-Sum.Denot)). Entered g.T.Summed.sums g.T.Summed.before a b c.args.root c.args.at c.args.item.now c.enter.result) c.as_mut_slice.result.now c.args.nodes.now.items c.enter.new.nodes c.args.nodes.now.len c.enter.ensures c.as_mut_slice.ensures.value c.enter.auto.nodes c.as_mut_slice.ensures.len

pub returns-clause-length : goal.returns-clause-length
returns-clause-length g c = written_length c.as_mut_slice.result.now c.args.nodes.now.items c.enter.new.nodes c.args.nodes.now.len c.as_mut_slice.ensures.value c.enter.auto.nodes c.as_mut_slice.ensures.len
