use Rattle.archive_state.proofs.state.ArchiveState.keeps_media.Goals as goal

pub returns : goal.returns
returns g c = rw (← c.self.view_is) (record { places = c.self.invariant.places; shelf = c.self.invariant.shelf })
