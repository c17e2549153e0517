use Rattle.durable_opening.proofs.TakenUp.{new_untold}
use Rattle.durable_opening.proofs.opening.taken_up_on.Goals as goal

pub taken_up-requires-clause-media : goal.taken_up-requires-clause-media
taken_up-requires-clause-media g c = new_untold g.D.Medium.Told.told c.requires.untold (g.B.Bench.tells c.args.bench.now) c.args.site c.in-Ok.media.items c.in-Ok.ensures.media
