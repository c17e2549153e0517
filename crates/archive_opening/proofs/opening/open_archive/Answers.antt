use Rattle.archive_opening.proofs.Benches.{opened}
use Rattle.archive_opening.proofs.FirstMedia.{first_media}
use Rattle.archive_opening.proofs.opening.open_archive.Goals as goal

pub new-requires : goal.new-requires
new-requires g c = first_media (g.B.Bench.tells c.args.bench.now) c.args.site g.D.Medium.Told.told c.in_ok-media.media.items c.in_ok-media.ensures.media

pub returns-clause-opened : goal.returns-clause-opened
returns-clause-opened g c = opened g.D.Medium.Told.told (g.B.Bench.tells c.args.bench.now) c.args.site c.in_ok-media.media.items c.new.result c.in_ok-media.ensures.media c.new.ensures
