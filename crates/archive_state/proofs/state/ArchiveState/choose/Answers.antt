use Rattle.std.proofs.Common.{◌∙◌, ap}
use Rattle.part_laws.specs.AllParts.{AllParts}
use Rattle.part_laws.specs.Choices.{choice_told}
use Rattle.archive_state.proofs.Now.{choice_now, room_low, told_ok}
use Rattle.archive_state.proofs.state.ArchiveState.choose.Goals as goal

pub room_of-requires : goal.room_of-requires
room_of-requires g c = room_low c.buffer_has_room.ensures c.self.inside.site _ c.self.inside.parts c.moment_of-now.result (rw c.site.ensures at c.keeps_rules.ensures.parts) c.self.invariant.legal c.self.invariant.parts

pub returns : goal.returns
returns g c =
    rw (← c.self.view_is) (told_ok _ _ _ c.choose.ensures
    (ap (λ (v : AllParts). choice_told c.self.inside.site v c.moment_of-now.result c.args.drive) c.of-seen.ensures
    ∙ choice_now c.choice_is_seen.ensures _ _ c.self.inside.parts c.args.at _ _ c.args.drive c.self.invariant.legal c.self.invariant.parts c.requires c.moment_of-now.ensures c.room_of.ensures))
