use Rattle.std.proofs.Common.{arith}
use Rattle.repack_book.specs.NamedRepacks.{repacks_of}
use Rattle.drive_asks.proofs.MarkedItems.{next_down, none_down}
use Rattle.drive_asks.proofs.repacks.+mark_repack.Goals as goal

pub returns-then-copies-eq0-clause-repacks : goal.returns-then-copies-eq0-clause-repacks
returns-then-copies-eq0-clause-repacks t c = none_down c.args.id c.args.file c.args.copies (repacks_of c.args.repacks.now) c.if-copies-eq0.true

pub returns-clause-repacks : goal.returns-clause-repacks
returns-clause-repacks t c = next_down c.args.id c.args.file c.args.copies (repacks_of c.args.repacks.now) _ _ (let some = c.if-copies-eq0.false in omega arith) c.set.ensures.repacks c.mark_repack.ensures.repacks
