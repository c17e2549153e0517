use Rattle.load_mill.proofs.Valid.{is_valid}
use Rattle.load_mill.proofs.site.mill_site_is_valid.Goals as goal

pub returns : goal.returns
returns c = is_valid
