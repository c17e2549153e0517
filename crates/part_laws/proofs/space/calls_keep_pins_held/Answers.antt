use Rattle.part_laws.proofs.BufferLaw as law
use Rattle.part_laws.proofs.space.calls_keep_pins_held.Goals as goal

pub returns : goal.returns
returns c = law.calls_keep_pins_held
