use Rattle.std.proofs.Common.{ap}
use Rattle.part_model.specs.Room.{Roomed}
use Rattle.disk_buffer.proofs.PinLists.{like_is, unset_is}
use Rattle.disk_buffer.proofs.pins.Pins.unset.Goals as goal

pub returns-clause-value : goal.returns-clause-value
returns-clause-value c =
    unset_is c.self.inside.forest.trees c.take-was.new.self.trees c.args.self.now.value c.args.file c.args.owner c.pin_like.result (ap (λ (v : Roomed _). v.value) c.self.view_is) c.self.invariant (like_is _ _ _ _ c.pin_like.ensures c.into.ensures) c.take-was.ensures.trees
