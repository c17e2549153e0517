use Rattle.std.proofs.Common.{◌∙◌}
use Rattle.archive_state.proofs.Requested.{paths_now}
use Rattle.archive_state.proofs.state.ArchiveState.has_paths.Goals as goal

pub returns : goal.returns
returns g c = rw (← c.self.view_is) (c.has_all.ensures ∙ paths_now _ _ c.self.inside.parts c.args.id c.args.paths.now c.self.invariant.parts)
