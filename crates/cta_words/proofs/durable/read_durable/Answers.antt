use Rattle.cta_words.proofs.Journaled.{explains_none}
use Rattle.cta_words.proofs.durable.read_durable.Goals as goal

pub returns-in-Err : goal.returns-in-Err
returns-in-Err c = explains_none _ c.in-Err.error c.in-Err.ensures
