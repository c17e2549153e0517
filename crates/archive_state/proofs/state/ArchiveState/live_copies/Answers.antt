use Rattle.std.proofs.Common.{◌∙◌}
use Rattle.archive_state.proofs.TapesTold.{copies_now}
use Rattle.archive_state.proofs.state.ArchiveState.live_copies.Goals as goal

pub returns : goal.returns
returns g c = rw (← c.self.view_is) (c.live.ensures ∙ copies_now _ _ c.self.inside.parts c.args.tape c.self.invariant.legal c.self.invariant.parts)
