use Rattle.part_laws.proofs.BufferLaw as law
use Rattle.part_laws.proofs.space.calls_move_buffer.Goals as goal

pub returns : goal.returns
returns c = law.calls_move_buffer
