use Rattle.std.proofs.Common.{rules}
use Rattle.turn_hall.proofs.Passes.{joins}
use Rattle.turn_hall.proofs.hall.Hall+T.merge.Goals as goal

pub join_seat-requires : goal.join_seat-requires
join_seat-requires g c = let r = c.requires.rest in (search rules, search rules, search rules, search rules, joins _ _ _ _ _ _ _ _ _ _ _ _ r.0.0 r.0.1 r.1.0 r.1.1 r.0.3 r.1.3)
