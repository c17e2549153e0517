use Rattle.std.proofs.Common.{rules}
use Rattle.job_book.proofs.Steps.{left_at}
use Rattle.job_book.proofs.waiting.forget_at.Goals as goal

pub returns-then-eq-clause-waits : goal.returns-then-eq-clause-waits
returns-then-eq-clause-waits c = λ f i. left_at c.args.owner c.args.file c.args.at f i c.args.waiting.now.entries _ (search rules) (c.take_out.ensures.values (f, i))
