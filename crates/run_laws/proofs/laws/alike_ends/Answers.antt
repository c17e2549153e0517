use Rattle.run_laws.proofs.Runs as runs
use Rattle.run_laws.proofs.laws.alike_ends.Goals as goal

pub returns : goal.returns
returns c = runs.alike_ends c.one_run.ensures c.callers_ask.ensures
