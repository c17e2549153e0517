use Rattle.part_answers.proofs.ItemsOf.{has_put, items_step}
use Rattle.part_answers.proofs.batch_writes.written_batch.Goals as goal

pub item_of-requires : goal.item_of-requires
item_of-requires c = has_put c.args.history.now.value c.args.jobs.now c.loop-at.at _ c.requires.puts c.loop-at-test.true

pub loop-at-preserved : goal.loop-at-preserved
loop-at-preserved c =
    items_step c.args.history.now.value c.args.first c.args.jobs.now c.loop-at.at (record { birth = 0; file = 0; copy = 0 }) _ _ _ _ c.loop-at-test.true c.loop-at.invariant c.in_ok-reserve.ensures.items
    c.item_of.ensures c.push.ensures.items
