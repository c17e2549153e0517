use Rattle.archive_state.proofs.TapesTold.{repack_ok, repack_now}
use Rattle.archive_state.proofs.state.ArchiveState.repack_info.Goals as goal

pub returns : goal.returns
returns g c = rw (← c.self.view_is) (repack_ok _ _ _ c.info.ensures (repack_now _ _ c.self.inside.parts c.args.id c.self.invariant.parts))
