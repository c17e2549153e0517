use Rattle.cta_laws.proofs.QuotaLaw as law
use Rattle.cta_laws.proofs.mounts.keeps_quota.Goals as goal

pub returns : goal.returns
returns c = law.keeps_quota
