use Rattle.std.proofs.Common.{◌∙◌}
use Rattle.archive_state.proofs.Requested.{known_now}
use Rattle.archive_state.proofs.state.ArchiveState.knows_request.Goals as goal

pub returns : goal.returns
returns g c = rw (← c.self.view_is) (c.knows.ensures ∙ known_now _ _ c.self.inside.parts c.args.id c.self.invariant.parts)
