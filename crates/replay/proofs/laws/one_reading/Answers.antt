use Rattle.replay.proofs.OneReading.{one_cut}
use Rattle.replay.proofs.laws.one_reading.Goals as goal

pub returns : goal.returns
returns c = λ site valid. one_cut site (c.valid_is_well_formed.ensures site valid)
