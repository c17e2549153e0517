use Rattle.std.proofs.Common.{◌∙◌, ◌∷◌, [], refl, sym, ap, arith}
use Rattle.sum_trees.specs.Forests.{items_in}
use Rattle.part_model.specs.Held.{pins_without}
use Rattle.part_model.specs.Room.{Roomed}
use Rattle.disk_buffer.proofs.PinLists.{fewer_pins, one_pin_gone, set_length_one, told_pin, told_no_pin}
use Rattle.disk_buffer.proofs.pins.Pins.unset_all.Goals as goal

pub loop-row-init : goal.loop-row-init
loop-row-init c = (c.self.invariant, refl, omega arith)

pub first_pin-requires : goal.first_pin-requires
first_pin-requires c = c.loop-row.invariant.0

pub loop-row-smaller : goal.loop-row-smaller
loop-row-smaller c =
    fewer_pins c.in-Some.row c.loop-row.self-inside.forest.trees c.take-was.new.self.trees c.loop-row.invariant.0 c.take-was.ensures.trees (told_pin c.args.file (items_in c.loop-row.self-inside.forest.trees 0) c.first_pin.result c.in-Some.row c.in-Some.is c.first_pin.ensures).1

pub loop-row-preserved : goal.loop-row-preserved
loop-row-preserved c = (
  set_length_one _ _ _ c.loop-row.invariant.0 c.take-was.ensures.trees,
  one_pin_gone c.args.file c.in-Some.row c.loop-row.self-inside.forest.trees c.take-was.new.self.trees c.loop-row.invariant.0 c.take-was.ensures.trees
      (told_pin c.args.file (items_in c.loop-row.self-inside.forest.trees 0) c.first_pin.result c.in-Some.row c.in-Some.is c.first_pin.ensures).0 ∙ c.loop-row.invariant.1,
  omega (arith, c.loop-row.invariant.2, c.take-was.ensures.room),
)

pub invariant_of-self : goal.invariant_of-self
invariant_of-self c = c.loop-row.invariant.0

pub returns-clause-value : goal.returns-clause-value
returns-clause-value c =
    sym (told_no_pin c.args.file (items_in c.loop-row.self-inside.forest.trees 0) c.first_pin.result c.in_default.is c.first_pin.ensures) ∙ c.loop-row.invariant.1 ∙ ap (λ (v : Roomed _). pins_without (c.args.file ∷ []) v.value) c.self.view_is

pub returns-clause-room : goal.returns-clause-room
returns-clause-room c = omega (arith, c.loop-row.invariant.2, ap (λ (v : Roomed _). v.room) c.self.view_is)
