use Rattle.cta_laws.proofs.ResidentLaw as law
use Rattle.cta_laws.proofs.recalls.recalled_is_resident.Goals as goal

pub returns : goal.returns
returns c = law.recalled_is_resident
