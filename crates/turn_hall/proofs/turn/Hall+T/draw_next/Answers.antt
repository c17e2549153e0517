use Rattle.std.proofs.Common.{rules}
use Rattle.turn_hall.proofs.Moves.{drawn}
use Rattle.turn_hall.proofs.turn.Hall+T.draw_next.Goals as goal

pub compare_exchange-requires : goal.compare_exchange-requires
compare_exchange-requires g c = (search rules, search rules, drawn _ _ _ _ _ _ _ _ _ _ c.args.ticket _ c.requires.rest)
