use Rattle.sum_trees.specs.Nodes.{item_at}
use Rattle.sum_trees.proofs.Searched.{without_other}
use Rattle.sum_trees.proofs.search.item_after.Goals as goal

pub returns : goal.returns
returns g c = without_other g.T.Summed.sums g.T.Summed.before (g.T.Summed.before c.args.item.now) c.args.nodes.now c.args.root (item_at c.args.nodes.now c.after_or.result) c.item_at.result c.item_at.ensures c.after_or.ensures
