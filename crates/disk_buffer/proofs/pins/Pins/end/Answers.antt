use Rattle.std.proofs.Common.{◌+◌, ◌∙◌, sym, ap}
use Rattle.part_model.specs.Room.{Roomed}
use Rattle.disk_buffer.proofs.PinLists.{ended, end_told, low_is}
use Rattle.disk_buffer.proofs.pins.Pins.end.Goals as goal

pub returns-in-None : goal.returns-in-None
returns-in-None c =
    sym (ap ended c.in-None.is)
    ∙ end_told c.self.inside.forest.trees c.args.self.now.value c.args.file c.pin_like-low.result c.pin_like-high.result c.sum_between.result (ap (λ (v : Roomed _). v.value) c.self.view_is)
    (low_is _ _ _ c.pin_like-low.ensures c.into.ensures) (low_is _ _ _ c.pin_like-high.ensures (ap (λ n. n + 1) c.from.ensures)) c.sum_between.ensures

pub returns-in-Some : goal.returns-in-Some
returns-in-Some c =
    sym (ap ended c.in-Some.is)
    ∙ end_told c.self.inside.forest.trees c.args.self.now.value c.args.file c.pin_like-low.result c.pin_like-high.result c.sum_between.result (ap (λ (v : Roomed _). v.value) c.self.view_is)
    (low_is _ _ _ c.pin_like-low.ensures c.into.ensures) (low_is _ _ _ c.pin_like-high.ensures (ap (λ n. n + 1) c.from.ensures)) c.sum_between.ensures
