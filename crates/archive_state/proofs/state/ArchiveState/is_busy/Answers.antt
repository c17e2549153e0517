use Rattle.std.proofs.Common.{◌∙◌}
use Rattle.part_laws.proofs.ChoiceTold.{tells_mounts}
use Rattle.archive_parts.specs.PartsKept.{values_of}
use Rattle.archive_state.proofs.state.ArchiveState.is_busy.Goals as goal

pub returns : goal.returns
returns g c = rw (← c.self.view_is) (c.is_some.ensures ∙ c.of_drive.ensures.there ∙ (tells_mounts _ _ (values_of c.self.inside.parts) c.self.invariant.parts.stand).busy c.args.drive)
