use Rattle.std.proofs.Common.{◌∙◌, sym, ap}
use Rattle.part_model.specs.Room.{Roomed}
use Rattle.sum_trees.specs.Forests.{items_in}
use Rattle.disk_buffer.proofs.PinLists.{one_pin, same_has, set_again, set_new, set_row_is}
use Rattle.disk_buffer.proofs.pins.Pins.set.Goals as goal

pub replace-requires-clause-there : goal.replace-requires-clause-there
replace-requires-clause-there c =
    same_has c.pin_like-like.result (record { until = c.later_end.result; file = c.into-2.result; owner = c.args.owner }) (items_in c.self.inside.forest.trees 0) (one_pin _ c.later_end.result _ _ _ c.pin_like-like.ensures (c.into-2.ensures ∙ sym c.into.ensures))
    ∙ sym c.get-found.ensures.had ∙ sym c.is_some.ensures ∙ c.if-is_some.true

pub insert-requires-clause-lacks : goal.insert-requires-clause-lacks
insert-requires-clause-lacks c =
    same_has c.pin_like-like.result (record { until = c.later_end.result; file = c.into-2.result; owner = c.args.owner }) (items_in c.self.inside.forest.trees 0) (one_pin _ c.later_end.result _ _ _ c.pin_like-like.ensures (c.into-2.ensures ∙ sym c.into.ensures))
    ∙ sym c.get-found.ensures.had ∙ sym c.is_some.ensures ∙ c.if-is_some.false

pub returns-then-is_some-clause-pins : goal.returns-then-is_some-clause-pins
returns-then-is_some-clause-pins c =
    (set_again c.self.inside.forest.trees c.replace.new.self.trees c.args.self.now.value c.args.file c.args.owner c.args.until c.pin_like-like.result _ c.get-found.result (sym c.is_some.ensures ∙ c.if-is_some.true) (ap (λ (v : Roomed _). v.value) c.self.view_is) c.self.invariant
    (one_pin _ c.later_end.result _ _ _ c.pin_like-like.ensures (c.into-2.ensures ∙ sym c.into.ensures)) (set_row_is _ _ _ _ _ c.later_end.ensures c.into-2.ensures) c.get-found.ensures.sorted c.get-found.ensures.like c.replace.ensures.trees).pins

pub returns-then-is_some-clause-ends : goal.returns-then-is_some-clause-ends
returns-then-is_some-clause-ends c =
    (set_again c.self.inside.forest.trees c.replace.new.self.trees c.args.self.now.value c.args.file c.args.owner c.args.until c.pin_like-like.result _ c.get-found.result (sym c.is_some.ensures ∙ c.if-is_some.true) (ap (λ (v : Roomed _). v.value) c.self.view_is) c.self.invariant
    (one_pin _ c.later_end.result _ _ _ c.pin_like-like.ensures (c.into-2.ensures ∙ sym c.into.ensures)) (set_row_is _ _ _ _ _ c.later_end.ensures c.into-2.ensures) c.get-found.ensures.sorted c.get-found.ensures.like c.replace.ensures.trees).ends

pub returns-clause-pins : goal.returns-clause-pins
returns-clause-pins c =
    (set_new c.self.inside.forest.trees c.insert.new.self.trees c.args.self.now.value c.args.file c.args.owner c.args.until _ c.get-found.result (sym c.is_some.ensures ∙ c.if-is_some.false) (ap (λ (v : Roomed _). v.value) c.self.view_is) c.self.invariant
    (set_row_is _ _ _ _ _ c.later_end.ensures c.into-2.ensures) c.insert.ensures.trees).pins

pub returns-clause-ends : goal.returns-clause-ends
returns-clause-ends c =
    (set_new c.self.inside.forest.trees c.insert.new.self.trees c.args.self.now.value c.args.file c.args.owner c.args.until _ c.get-found.result (sym c.is_some.ensures ∙ c.if-is_some.false) (ap (λ (v : Roomed _). v.value) c.self.view_is) c.self.invariant
    (set_row_is _ _ _ _ _ c.later_end.ensures c.into-2.ensures) c.insert.ensures.trees).ends
