use Rattle.std.specs.Prelude.{not}
use Rattle.sum_trees.specs.Nodes.{item_at}
use Rattle.sum_trees.proofs.Searched.{without_other}
use Rattle.sum_trees.proofs.search.item_from.Goals as goal

pub returns : goal.returns
returns g c = without_other g.T.Summed.sums g.T.Summed.before (λ y. not (g.T.Summed.before y c.args.item.now)) c.args.nodes.now c.args.root (item_at c.args.nodes.now c.from_or.result) c.item_at.result c.item_at.ensures c.from_or.ensures
