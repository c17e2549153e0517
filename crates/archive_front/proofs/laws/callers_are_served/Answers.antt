use Rattle.archive_front.proofs.Serving.{fit, about, gets, replies, none, plays, leaves}
use Rattle.archive_front.proofs.laws.callers_are_served.Goals as goal

pub returns-clause-fit : goal.returns-clause-fit
returns-clause-fit g c = fit g.M.Told.told

pub returns-clause-about : goal.returns-clause-about
returns-clause-about g c = about _

pub returns-clause-gets : goal.returns-clause-gets
returns-clause-gets g c = gets g.M.Told.told

pub returns-clause-replies : goal.returns-clause-replies
returns-clause-replies g c = replies g.M.Told.told c.replies_carry_their_content.ensures

pub returns-clause-none : goal.returns-clause-none
returns-clause-none g c = none _

pub returns-clause-plays : goal.returns-clause-plays
returns-clause-plays g c = plays g.M.Told.told

pub returns-clause-leaves : goal.returns-clause-leaves
returns-clause-leaves g c = leaves g.M.Told.told
