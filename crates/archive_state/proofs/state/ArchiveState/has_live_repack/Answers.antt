use Rattle.std.proofs.Common.{◌∙◌}
use Rattle.archive_state.proofs.TapesTold.{repack_live_now}
use Rattle.archive_state.proofs.state.ArchiveState.has_live_repack.Goals as goal

pub returns : goal.returns
returns g c = rw (← c.self.view_is) (c.live.ensures ∙ repack_live_now _ _ c.self.inside.parts c.args.tape c.self.invariant.parts)
