use Rattle.std.proofs.Common.{◌∙◌}
use Rattle.part_laws.proofs.ChoiceTold.{tells_mounts}
use Rattle.archive_parts.specs.PartsKept.{values_of}
use Rattle.archive_state.proofs.state.ArchiveState.is_mounted.Goals as goal

pub returns : goal.returns
returns g c = rw (← c.self.view_is) (c.is_some.ensures ∙ c.of_tape.ensures.there ∙ (tells_mounts _ _ (values_of c.self.inside.parts) c.self.invariant.parts.stand).mounts c.args.tape)
