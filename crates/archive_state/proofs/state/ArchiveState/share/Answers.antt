use Rattle.archive_state.proofs.Shares.{are_shared, full_shelf}
use Rattle.archive_state.proofs.state.ArchiveState.share.Goals as goal

pub take_mounted-requires-clause-full : goal.take_mounted-requires-clause-full
take_mounted-requires-clause-full g c = full_shelf g.N.Told.told c.args.media.items c.in_ok-shelf.shelf _ c.requires.count c.in_ok-shelf.ensures

pub returns : goal.returns
returns g c =
    are_shared g.N.Told.told _ c.args.media.items c.in_ok-shelf.shelf c.take_mounted.new.shelf c.in_ok-mounts.mounts.items c.in_ok-shelf.ensures c.take_mounted.ensures.places c.in_ok-mounts.ensures.shelf c.in_ok-mounts.ensures.numbers c.in_ok-mounts.ensures.media
