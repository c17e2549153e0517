use Rattle.run_laws.proofs.Runs as runs
use Rattle.run_laws.proofs.laws.changes_are_told.Goals as goal

pub returns : goal.returns
returns c = runs.changes_are_told c.callers_ask.ensures
