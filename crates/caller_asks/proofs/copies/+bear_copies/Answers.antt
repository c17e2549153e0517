use Rattle.std.proofs.Common.{arith}
use Rattle.part_model.specs.JobRows.{book_in}
use Rattle.caller_asks.proofs.PutBirths.{born_behind}
use Rattle.caller_asks.proofs.copies.+bear_copies.Goals as goal

pub returns-clause-book : goal.returns-clause-book
returns-clause-book t c =
    born_behind c.args.file c.args.copies (book_in c.args.book.now.value) _ _ (let some = c.if-copies-eq0.false in omega arith) c.bear_copies.ensures.book c.born.ensures.book
