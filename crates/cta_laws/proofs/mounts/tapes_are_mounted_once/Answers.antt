use Rattle.cta_laws.proofs.MountLaw as law
use Rattle.cta_laws.proofs.mounts.tapes_are_mounted_once.Goals as goal

pub returns : goal.returns
returns c = law.tapes_are_mounted_once
