use Rattle.cta_laws.proofs.CapacityLaw as law
use Rattle.cta_laws.proofs.space.tapes_have_room.Goals as goal

pub returns : goal.returns
returns c = law.tapes_have_room
