use Rattle.std.proofs.Common.{◌∙◌, sym, ap}
use Rattle.sum_trees.specs.Forests.{items_in}
use Rattle.disk_buffer.specs.declared.row.Row.{Row}
use Rattle.disk_buffer.proofs.Found.{row_told}
use Rattle.disk_buffer.proofs.arrivals.row_of.Goals as goal

pub returns-in-Some : goal.returns-in-Some
returns-in-Some c =
    row_told c.args.file c.in-Some.arrival (items_in c.args.forest.now.trees 0) c.row_like.result c.get.result (sym (c.requires.found c.args.file) ∙ sym c.arrival_of.ensures ∙ c.in-Some.is) (ap (λ (r : Row). r.arrival) c.row_like.ensures) c.requires.apart c.get.ensures.sorted c.get.ensures.like
