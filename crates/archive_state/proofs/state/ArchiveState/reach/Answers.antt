use Rattle.archive_state.proofs.Reached.{state_reached}
use Rattle.archive_state.proofs.state.ArchiveState.reach.Goals as goal

pub invariant_of-self : goal.invariant_of-self
invariant_of-self g c = state_reached c.self.inside.site c.self.inside.history.value c.self.inside.parts c.self.inside.shelf _ c.evict.new.self c.self.invariant c.evict.ensures.held c.evict.ensures.contents
