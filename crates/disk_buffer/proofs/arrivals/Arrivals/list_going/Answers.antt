use Rattle.std.proofs.Common.{◌≡◌, ◌∙◌, ◌++◌, length, ap, arith}
use Rattle.part_model.specs.Held.{numbers, prefix_of}
use Rattle.sum_trees.specs.Forests.{items_in}
use Rattle.disk_buffer.specs.Stays.{Arrived, going}
use Rattle.disk_buffer.specs.Walks.{ended_by, sought}
use Rattle.disk_buffer.proofs.Walked.{going_is, wanted_at}
use Rattle.disk_buffer.proofs.arrivals.Arrivals.list_going.Goals as goal

pub list_passing-requires-clause-room : goal.list_passing-requires-clause-room
list_passing-requires-clause-room c =
    let e : length (prefix_of c.args.lacking (ended_by c.args.at (sought (wanted_at c.args.at) (items_in c.self.inside.forest.trees 0)))) ≡ length (prefix_of c.args.lacking (going c.args.at c.args.self.now.stays)) = ap (λ l. length (prefix_of c.args.lacking l)) (going_is c.self.inside.clock c.args.at (items_in c.self.inside.forest.trees 0) c.self.invariant.1.flags ∙ ap (λ (v : Arrived). going c.args.at v.stays) c.self.view_is) in
    omega (arith, c.requires)

pub returns : goal.returns
returns c = c.list_passing.ensures ∙ ap (λ l. c.args.out.now.items ++ numbers (prefix_of c.args.lacking l)) (going_is c.self.inside.clock c.args.at (items_in c.self.inside.forest.trees 0) c.self.invariant.1.flags ∙ ap (λ (v : Arrived). going c.args.at v.stays) c.self.view_is)
