use Rattle.std.proofs.Common.{arith}
use Rattle.part_model.specs.JobRows.{book_in}
use Rattle.caller_asks.proofs.BirthLoops.{joined_more, joined_none}
use Rattle.caller_asks.proofs.births.join_all.Goals as goal

pub loop-file-init : goal.loop-file-init
loop-file-init c = record { joined = joined_none c.args.id (book_in c.args.book.now.value); room = omega arith }

pub loop-file-preserved : goal.loop-file-preserved
loop-file-preserved c = record {
  joined = joined_more c.args.id c.loop-file.file-index _ c.args.files.now (book_in c.args.book.now.value) (book_in c.loop-file.book.value) (book_in c.subscribe.new.self.value) c.loop-file-test.true c.requires.once c.loop-file.invariant.joined c.subscribe.ensures.book;
  room = (let was = c.loop-file.invariant.room in let left = c.subscribe.ensures.room in omega arith);
}
