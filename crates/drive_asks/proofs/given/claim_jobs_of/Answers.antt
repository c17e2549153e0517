use Rattle.std.proofs.Common.{arith}
use Rattle.part_model.specs.JobRows.{book_in}
use Rattle.drive_asks.proofs.ItemLoops.{claimed_more}
use Rattle.drive_asks.proofs.given.claim_jobs_of.Goals as goal

pub loop-item-preserved : goal.loop-item-preserved
loop-item-preserved c = record {
  book = claimed_more c.args.mount c.args.items.now c.loop-item.item-index _ (book_in c.args.book.now.value) (book_in c.loop-item.book.value) (book_in c.claim.new.self.value) c.loop-item-test.true c.loop-item.invariant.book c.claim.ensures.book;
  room = omega arith;
}
