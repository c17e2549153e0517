use Rattle.cta_site.proofs.Numbered.{well_formed}
use Rattle.cta_site.proofs.valid_laws.valid_is_well_formed.Goals as goal

pub returns : goal.returns
returns c = well_formed
