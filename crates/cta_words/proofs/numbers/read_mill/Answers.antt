use Rattle.cta_words.proofs.Spelled.{explains_none}
use Rattle.cta_words.proofs.numbers.read_mill.Goals as goal

pub returns-in-Err : goal.returns-in-Err
returns-in-Err c = explains_none _ c.in-Err.error c.in-Err.ensures
