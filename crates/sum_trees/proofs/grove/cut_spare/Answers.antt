use Rattle.std.proofs.Common.{List}
use Rattle.sum_trees.specs.Changes.{CutFirst}
use Rattle.sum_trees.specs.declared.nodes.Node.{Node}
use Rattle.sum_trees.proofs.Grown.{written_as, written_length}
use Rattle.sum_trees.proofs.grove.cut_spare.Goals as goal

pub returns-clause-cut : goal.returns-clause-cut
returns-clause-cut g c = written_as (λ (a b : List (Node g.row.T.Denot g.row.T-Sum.Denot)). CutFirst g.T.Summed.sums a b c.args.root c.cut_first.result) c.as_mut_slice.result.now c.args.nodes.now.items c.cut_first.new.nodes c.args.nodes.now.len c.cut_first.ensures c.as_mut_slice.ensures.value c.cut_first.auto.nodes c.as_mut_slice.ensures.len

pub returns-clause-length : goal.returns-clause-length
returns-clause-length g c = written_length c.as_mut_slice.result.now c.args.nodes.now.items c.cut_first.new.nodes c.args.nodes.now.len c.as_mut_slice.ensures.value c.cut_first.auto.nodes c.as_mut_slice.ensures.len
