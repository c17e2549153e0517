use Rattle.archive_state.proofs.state.ArchiveState.with_shelf.Goals as goal

pub invariant_of-result : goal.invariant_of-result
invariant_of-result g c = record {
  legal = c.self.invariant.legal;
  parts = c.self.invariant.parts;
  shelf = rw (← c.self.view_is) at c.requires.shelf;
  places = rw (← c.self.view_is) at c.requires.places;
}
