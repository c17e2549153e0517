use Rattle.cta_site.proofs.OneOrder.{one_numbering}
use Rattle.cta_site.proofs.valid_laws.one_numbering.Goals as goal

pub returns : goal.returns
returns c = one_numbering
