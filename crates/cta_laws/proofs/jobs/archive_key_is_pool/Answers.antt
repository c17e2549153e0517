use Rattle.cta_laws.proofs.PoolLaw.{archive_key_is_pool}
use Rattle.cta_laws.proofs.jobs.archive_key_is_pool.Goals as goal

pub returns : goal.returns
returns c = archive_key_is_pool c.numbers_are_known.ensures.classes c.numbers_are_known.ensures.pools
