use Rattle.cta_journal.proofs.Damages.{one_place}
use Rattle.cta_journal.proofs.laws.file_is_damaged_once.Goals as goal

pub returns : goal.returns
returns g c = λ file one other low here there. one_place g.R.Record.body g.R.Record.fits file one other low here there
