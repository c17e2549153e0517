use Rattle.part_model.specs.JobRows.{book_in}
use Rattle.fault_asks.proofs.ChargeTexts.{endings_more}
use Rattle.fault_asks.proofs.endings.endings_of.Goals as goal

pub loop-pair-preserved : goal.loop-pair-preserved
loop-pair-preserved c =
    endings_more c.args.site.now (book_in c.args.book.now.value) c.args.charge c.args.pairs.now c.loop-pair.pair-index _ c.loop-pair.endings.items c.push.new.self.items c.in_ok-ending_for.field-0 c.loop-pair-test.true c.loop-pair.invariant c.in_ok-ending_for.ensures
    c.in_ok-push.ensures.items
