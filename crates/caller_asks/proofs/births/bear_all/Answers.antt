use Rattle.std.proofs.Common.{arith}
use Rattle.part_model.specs.JobRows.{book_in}
use Rattle.caller_asks.proofs.BirthLoops.{born_more}
use Rattle.caller_asks.proofs.births.bear_all.Goals as goal
use Rattle.part_moves.proofs.NewJobs.{born_none}

pub loop-file-init : goal.loop-file-init
loop-file-init c = record { born = born_none c.args.number (book_in c.args.book.now.value); room = (let room = c.requires in omega arith) }

pub loop-file-preserved : goal.loop-file-preserved
loop-file-preserved c = record {
  born = born_more c.args.number c.loop-file.file-index _ c.args.files.now (book_in c.args.book.now.value) (book_in c.loop-file.book.value) (book_in c.born.new.self.value) c.loop-file-test.true c.loop-file.invariant.born c.born.ensures.book;
  room = (let was = c.loop-file.invariant.room in let left = c.born.ensures.room in omega arith);
}
