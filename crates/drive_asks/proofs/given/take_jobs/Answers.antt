use Rattle.std.proofs.Common.{◌∙◌, refl}
use Rattle.part_model.specs.Queues.{lines_in}
use Rattle.drive_asks.proofs.ItemLoops.{taken_more, taken_none}
use Rattle.drive_asks.proofs.given.take_jobs.Goals as goal

pub loop-item-init : goal.loop-item-init
loop-item-init c = record { lines = λ k. taken_none c.args.key (lines_in c.args.queues.now.value) k; keys = refl }

pub loop-item-preserved : goal.loop-item-preserved
loop-item-preserved c = record {
  lines = taken_more c.args.key c.args.items.now c.loop-item.item-index _ (lines_in c.args.queues.now.value) (lines_in c.loop-item.queues.value) (lines_in c.take.new.self.value) c.loop-item-test.true c.loop-item.invariant.lines c.take.ensures.lines;
  keys = c.take.ensures.keys ∙ c.loop-item.invariant.keys;
}
