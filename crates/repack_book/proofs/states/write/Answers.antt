use Rattle.std.proofs.Common.{rules}
use Rattle.repack_book.proofs.states.write.Goals as goal

pub returns-in-Some : goal.returns-in-Some
returns-in-Some c = λ f k. ((c.get_mut.follows.holds c.args.state).3 (search rules)).0 (f, k)
