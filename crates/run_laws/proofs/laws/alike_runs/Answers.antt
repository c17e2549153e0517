use Rattle.run_laws.proofs.Runs as runs
use Rattle.run_laws.proofs.laws.alike_runs.Goals as goal

pub returns : goal.returns
returns c = λ site valid. runs.alike_runs site (c.one_reading.ensures site valid) c.one_run.ensures c.callers_ask.ensures
