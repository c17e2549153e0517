use Rattle.std.proofs.Common.{rules}
use Rattle.turn_hall.proofs.Moves.{looks_on}
use Rattle.turn_hall.proofs.Sites.{was_legal}
use Rattle.turn_hall.proofs.turn.Hall+T.glance.Goals as goal

pub load-requires : goal.load-requires
load-requires g c = (search rules, search rules, looks_on _ _ _ _ _ _ _ _ _ _ _ c.requires.rest.1)

pub returns-clause-legal : goal.returns-clause-legal
returns-clause-legal g c = was_legal g.T.Keeps.site g.T.Keeps.legal g.T.Keeps.history c.args.seat.now.me.0.site (g.T.Keeps.site c.args.self.now.table.shared.key.first.value) c.args.seat.now.me.0.seen c.requires.site (c.load.ensures.2.2.2 c.requires.rest.3)
