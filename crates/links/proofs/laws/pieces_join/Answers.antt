use Rattle.links.proofs.RunLaws.{free_pieces}
use Rattle.links.proofs.laws.pieces_join.Goals as goal

pub returns : goal.returns
returns c = free_pieces
