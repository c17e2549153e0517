use Rattle.std.proofs.Common.{arith}
use Rattle.part_model.specs.JobRows.{book_in}
use Rattle.drive_asks.proofs.BornCopies.{born_more}
use Rattle.drive_asks.proofs.births.bear_all.Goals as goal
use Rattle.part_moves.proofs.NewJobs.{born_none}

pub loop-copy-init : goal.loop-copy-init
loop-copy-init c = record { born = born_none c.args.number (book_in c.args.book.now.value); room = (let room = c.requires in omega arith) }

pub loop-copy-preserved : goal.loop-copy-preserved
loop-copy-preserved c = record {
  born = born_more c.args.number c.args.file c.args.copies.now c.loop-copy.copy-index _ (book_in c.args.book.now.value) (book_in c.loop-copy.book.value) (book_in c.born.new.self.value) c.loop-copy-test.true c.loop-copy.invariant.born c.born.ensures.book;
  room = (let was = c.loop-copy.invariant.room in let left = c.born.ensures.room in omega arith);
}
