use Rattle.std.proofs.Common.{arith}
use Rattle.repack_book.specs.NamedRepacks.{repacks_of}
use Rattle.caller_asks.proofs.Items.{next_of_repack, none_of_repack}
use Rattle.caller_asks.proofs.repacks.+end_items.Goals as goal

pub returns-then-copies-eq0-clause-gone : goal.returns-then-copies-eq0-clause-gone
returns-then-copies-eq0-clause-gone t c = none_of_repack c.args.id c.args.file c.args.copies (repacks_of c.args.repacks.now) c.if-copies-eq0.true

pub returns-clause-gone : goal.returns-clause-gone
returns-clause-gone t c = next_of_repack c.args.id c.args.file c.args.copies (repacks_of c.args.repacks.now) _ _ (let some = c.if-copies-eq0.false in omega arith) c.set.ensures.repacks c.end_items.ensures.gone
