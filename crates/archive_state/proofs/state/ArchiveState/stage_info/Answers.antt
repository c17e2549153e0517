use Rattle.archive_state.proofs.Requested.{report_now, report_ok}
use Rattle.archive_state.proofs.state.ArchiveState.stage_info.Goals as goal

pub returns : goal.returns
returns g c = rw (← c.self.view_is) (report_ok _ _ _ c.tell.ensures (report_now _ _ c.self.inside.parts c.args.id c.self.invariant.parts))
