use Rattle.cta_laws.proofs.QuotaLaw as law
use Rattle.cta_laws.proofs.mounts.mounts_choice.Goals as goal

pub returns : goal.returns
returns c = law.mounts_choice
