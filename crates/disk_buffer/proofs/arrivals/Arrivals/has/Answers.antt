use Rattle.std.proofs.Common.{◌∙◌, sym, ap}
use Rattle.std.specs.Prelude.{is_some}
use Rattle.sum_trees.specs.Forests.{items_in}
use Rattle.disk_buffer.specs.Stays.{Arrived, is_there}
use Rattle.disk_buffer.proofs.Changed.{there_is}
use Rattle.disk_buffer.proofs.arrivals.Arrivals.has.Goals as goal

pub returns : goal.returns
returns c =
    c.is_some.ensures ∙ ap is_some (c.arrival_of.ensures ∙ c.self.invariant.1.found c.args.file) ∙ sym (there_is (items_in c.self.inside.forest.trees 0) c.args.file) ∙ ap (λ (v : Arrived). is_there v.stays c.args.file) c.self.view_is
