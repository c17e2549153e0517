use Rattle.archive_state.proofs.Shares.{shared_shelved}
use Rattle.archive_state.proofs.state.ArchiveState.with_media.Goals as goal

pub with_shelf-requires : goal.with_shelf-requires
with_shelf-requires g c = shared_shelved g.N.Told.told _ _ c.args.media.items c.in-Ok.shelf c.in-Ok.mounts.items c.requires c.in-Ok.ensures
