use Rattle.archive.proofs.archive.Archive.with_media.Goals as goal

pub returns-clause-media : goal.returns-clause-media
returns-clause-media g c = rw (← c.self.view_is) c.in_ok-state.ensures.media
