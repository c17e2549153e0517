use Rattle.part_model.specs.JobRows.{book_in}
use Rattle.drive_asks.proofs.WaitLists.{waiters_more}
use Rattle.drive_asks.proofs.waiters.waiters_of.Goals as goal

pub loop-item-preserved : goal.loop-item-preserved
loop-item-preserved c =
    waiters_more (book_in c.args.book.now.value).recall c.args.items.now c.loop-item.item-index _ c.loop-item.pairs.items c.add_waiters.new.out.items c.loop-item-test.true c.loop-item.invariant c.in_ok-add_waiters.ensures
