use Rattle.std.proofs.Common.{◌∙◌, ◌≤◌, ap, arith}
use Rattle.sum_trees.specs.Forests.{items_in}
use Rattle.disk_buffer.specs.Stays.{Arrived}
use Rattle.disk_buffer.proofs.Settled.{kept_settled, stays_same}
use Rattle.disk_buffer.proofs.arrivals.Arrivals.settle.Goals as goal

pub invariant_of-self : goal.invariant_of-self
invariant_of-self c =
    let le : c.self.inside.clock ≤ c.args.at = omega (arith, c.if-at-self.false) in (
      c.settle_rows.ensures.one,
      kept_settled c.args.at c.self.inside.clock (items_in c.self.inside.forest.trees 0) (items_in c.settle_rows.new.forest.trees 0) _ _ _ le c.settle_rows.ensures.settled c.settle_rows.ensures.none c.self.invariant.1,
    )

pub returns-clause-stays : goal.returns-clause-stays
returns-clause-stays c = stays_same c.args.at (items_in c.self.inside.forest.trees 0) (items_in c.settle_rows.new.forest.trees 0) c.settle_rows.ensures.settled ∙ ap (λ (v : Arrived). v.stays) c.self.view_is
