use Rattle.run_laws.proofs.Runs as runs
use Rattle.run_laws.proofs.laws.texts_are_output.Goals as goal

pub returns : goal.returns
returns c = runs.texts_are_output
