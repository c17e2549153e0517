use Rattle.conn.proofs.Cuts.{steps_make_cuts, cuts_are_steps, ends_stay}
use Rattle.conn.proofs.laws.steps_follow.Goals as goal

pub returns-clause-made : goal.returns-clause-made
returns-clause-made c = steps_make_cuts

pub returns-clause-found : goal.returns-clause-found
returns-clause-found c = cuts_are_steps

pub returns-clause-ends : goal.returns-clause-ends
returns-clause-ends c = ends_stay
