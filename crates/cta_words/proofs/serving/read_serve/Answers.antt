use Rattle.cta_words.proofs.Served.{explains_none}
use Rattle.cta_words.proofs.serving.read_serve.Goals as goal

pub returns-in-Err : goal.returns-in-Err
returns-in-Err c = explains_none _ c.in-Err.error c.in-Err.ensures
