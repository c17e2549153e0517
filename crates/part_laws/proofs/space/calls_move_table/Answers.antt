use Rattle.part_laws.proofs.TableMoves as law
use Rattle.part_laws.proofs.space.calls_move_table.Goals as goal

pub returns : goal.returns
returns c = law.calls_move_table
