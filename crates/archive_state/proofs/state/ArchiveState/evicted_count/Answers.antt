use Rattle.archive_state.proofs.Now.{evicted_now}
use Rattle.archive_state.proofs.state.ArchiveState.evicted_count.Goals as goal

pub returns : goal.returns
returns g c = rw (← c.self.view_is) (evicted_now _ _ c.self.inside.parts c.args.at _ c.args.size _ c.self.invariant.legal c.self.invariant.parts c.requires c.moment_of-now.ensures c.evict_count.ensures)
