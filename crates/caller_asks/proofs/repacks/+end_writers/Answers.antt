use Rattle.std.proofs.Common.{arith}
use Rattle.repack_book.specs.NamedRepacks.{repacks_of}
use Rattle.caller_asks.proofs.Writers.{next_copy_written, no_copy_written}
use Rattle.caller_asks.proofs.repacks.+end_writers.Goals as goal

pub returns-then-copies-eq0-clause-gone : goal.returns-then-copies-eq0-clause-gone
returns-then-copies-eq0-clause-gone t c = no_copy_written c.args.file c.args.copies (repacks_of c.args.repacks.now) c.if-copies-eq0.true

pub returns-clause-gone : goal.returns-clause-gone
returns-clause-gone t c = next_copy_written c.args.file c.args.copies (repacks_of c.args.repacks.now) _ _ (let some = c.if-copies-eq0.false in omega arith) c.end_writers_of.ensures.gone c.end_writers.ensures.gone
