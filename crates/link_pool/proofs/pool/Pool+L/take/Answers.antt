use Rattle.link_pool.proofs.Pools.{gets, empties, stays}
use Rattle.link_pool.proofs.pool.Pool+L.take.Goals as goal

pub pop_as-requires-clause-rule : goal.pop_as-requires-clause-rule
pop_as-requires-clause-rule g c = (gets _ _ c.requires.some, empties _ _)

pub returns-clause-stays : goal.returns-clause-stays
returns-clause-stays g c = stays _ _ _ c.pop_as.result c.pop_as.ensures.rule
