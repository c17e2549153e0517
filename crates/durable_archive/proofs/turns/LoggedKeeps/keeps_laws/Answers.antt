use Rattle.durable_archive.proofs.Turning.{logged_grows, logged_sounds, logged_topics}
use Rattle.durable_archive.proofs.turns.LoggedKeeps.keeps_laws.Goals as goal

pub returns-clause-grows : goal.returns-clause-grows
returns-clause-grows g c = λ s h call back later plays. logged_grows g.M.Told.told c.turns_in_order.ensures.grows s.site h call back later plays

pub returns-clause-sounds : goal.returns-clause-sounds
returns-clause-sounds g c = λ s h call back later legal plays. logged_sounds g.M.Told.told c.turns_in_order.ensures.sounds s.site h call back later legal plays

pub returns-clause-topics : goal.returns-clause-topics
returns-clause-topics g c = λ s h call back later e k plays at about. logged_topics g.M.Told.told c.turns_in_order.ensures.topics s.site h call back later e k plays at about

pub returns-clause-opens : goal.returns-clause-opens
returns-clause-opens g c = λ s h q k e legal at about. c.turns_in_order.ensures.opens s.site h q k e legal at about
