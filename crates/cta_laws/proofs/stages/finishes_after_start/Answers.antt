use Rattle.cta_laws.proofs.StageLaw as law
use Rattle.cta_laws.proofs.stages.finishes_after_start.Goals as goal

pub returns : goal.returns
returns c = law.finishes_after_start
