use Rattle.cta_laws.proofs.LostLaw as law
use Rattle.cta_laws.proofs.recalls.stays_resident.Goals as goal

pub returns : goal.returns
returns c = law.stays_resident
