use Rattle.cta_laws.proofs.BufferLaw as law
use Rattle.cta_laws.proofs.space.buffer_has_room.Goals as goal

pub returns : goal.returns
returns c = law.buffer_has_room
