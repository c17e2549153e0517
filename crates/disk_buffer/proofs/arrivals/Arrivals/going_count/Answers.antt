use Rattle.std.proofs.Common.{◌∙◌, length, ap}
use Rattle.part_model.specs.Held.{prefix_of}
use Rattle.sum_trees.specs.Forests.{items_in}
use Rattle.disk_buffer.specs.Stays.{Arrived, going}
use Rattle.disk_buffer.proofs.Walked.{going_is}
use Rattle.disk_buffer.proofs.arrivals.Arrivals.going_count.Goals as goal

pub returns : goal.returns
returns c = c.count_passing.ensures ∙ ap (λ l. length (prefix_of c.args.lacking l)) (going_is c.self.inside.clock c.args.at (items_in c.self.inside.forest.trees 0) c.self.invariant.1.flags ∙ ap (λ (v : Arrived). going c.args.at v.stays) c.self.view_is)
