use Rattle.replay.proofs.OneOutput.{one_output}
use Rattle.replay.proofs.laws.one_output.Goals as goal

pub returns : goal.returns
returns c = λ site valid. one_output site (c.one_reading.ensures site valid) c.one_run.ensures
