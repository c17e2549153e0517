use Rattle.std.proofs.Common.{◌∙◌, sym, ap, arith}
use Rattle.sum_trees.specs.Forests.{items_in}
use Rattle.disk_buffer.proofs.PinLists.{is_file, other_file, low_is, tells_none, tells_some}
use Rattle.disk_buffer.proofs.pins.first_pin.Goals as goal

pub returns-then-row-into : goal.returns-then-row-into
returns-then-row-into c = tells_none c.args.file (items_in c.args.forest.now.trees 0) c.pin_like.result c.from.result (low_is _ _ _ c.pin_like.ensures c.into.ensures) c.from.ensures.sorted c.from.ensures.from (ap (is_file c.args.file) c.in-Some.is ∙ other_file _ _ _ c.into-in-Some.ensures c.if-row-into.true)

pub returns-in-None : goal.returns-in-None
returns-in-None c = tells_none c.args.file (items_in c.args.forest.now.trees 0) c.pin_like.result c.from.result (low_is _ _ _ c.pin_like.ensures c.into.ensures) c.from.ensures.sorted c.from.ensures.from (ap (is_file c.args.file) c.in-None.is)

pub returns-else-row-into : goal.returns-else-row-into
returns-else-row-into c = tells_some c.args.file (items_in c.args.forest.now.trees 0) c.pin_like.result c.in-Some.row (sym c.in-Some.is ∙ c.from.ensures.from) (omega (arith, c.if-row-into.false, c.into-in-Some.ensures))
