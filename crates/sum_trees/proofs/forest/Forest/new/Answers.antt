use Rattle.std.proofs.Common.{List, sym, subst, map}
use Rattle.sum_trees.specs.Groves.{IsGrove, items_at}
use Rattle.sum_trees.specs.Forests.{AreEmpty}
use Rattle.sum_trees.specs.declared.nodes.Node.{Node}
use Rattle.sum_trees.proofs.Grown.{starts, start_rows}
use Rattle.sum_trees.proofs.forest.Forest.new.Goals as goal

pub invariant_of-result : goal.invariant_of-result
invariant_of-result g c =
    subst (λ (ns : List (Node g.row.T.Denot g.row.T-Sum.Denot)). IsGrove g.T.Summed.sums g.T.Summed.before ns c.in_ok-roots.roots.items (record { root = 4294967295; count = 0 })) (sym c.new.ensures.items)
    (starts g.T.Summed.sums g.T.Summed.before c.in_ok-roots.roots.items c.in_ok-roots.ensures.nowhere)

pub returns : goal.returns
returns g c =
    subst (λ (ns : List (Node g.row.T.Denot g.row.T-Sum.Denot)). AreEmpty c.args.trees (map (items_at ns) c.in_ok-roots.roots.items)) (sym c.new.ensures.items)
    (start_rows g.row.T.Denot g.row.T-Sum.Denot c.in_ok-roots.roots.items c.args.trees c.in_ok-roots.ensures.many c.in_ok-roots.ensures.nowhere)
