use Rattle.cta_laws.proofs.MountLaw as law
use Rattle.cta_laws.proofs.mounts.open_mount_stays.Goals as goal

pub returns : goal.returns
returns c = law.open_mount_stays
