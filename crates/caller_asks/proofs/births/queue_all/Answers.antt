use Rattle.std.proofs.Common.{◌∙◌, ◌≤◌, arith, length}
use Rattle.part_model.specs.Queues.{lines_in}
use Rattle.caller_asks.proofs.BirthLoops.{back_added, back_fits, back_lacks}
use Rattle.caller_asks.proofs.births.queue_all.Goals as goal

pub queue_recall-requires-clause-lacks : goal.queue_recall-requires-clause-lacks
queue_recall-requires-clause-lacks c =
    let top : c.loop-at.at ≤ length c.args.files.now = (let up = c.loop-at.auto.at in omega arith) in
    λ k. back_lacks c.args.site.now c.args.history.now.value c.args.tapes.now.value c.args.number c.loop-at.at c.args.files.now (lines_in c.args.recalls.now.value) (lines_in c.loop-at.recalls.value) k c.loop-at-test.true top c.requires.once (λ f. c.requires.lacks f k)
    (c.loop-at.invariant.lines k)

pub queue_recall-requires-clause-fits : goal.queue_recall-requires-clause-fits
queue_recall-requires-clause-fits c =
    let top : c.loop-at.at ≤ length c.args.files.now = (let up = c.loop-at.auto.at in omega arith) in
    λ k. back_fits c.args.site.now c.args.history.now.value c.args.tapes.now.value c.args.number c.loop-at.at _ c.args.files.now (lines_in c.args.recalls.now.value) (lines_in c.loop-at.recalls.value) k c.loop-at-test.true top c.requires.small (c.loop-at.invariant.lines k)
    (c.requires.fits k)

pub loop-at-preserved : goal.loop-at-preserved
loop-at-preserved c =
    let top : c.loop-at.at ≤ length c.args.files.now = (let up = c.loop-at.auto.at in omega arith) in
    record {
      lines = λ k. back_added c.args.site.now c.args.history.now.value c.args.tapes.now.value c.args.number c.loop-at.at c.args.files.now (lines_in c.args.recalls.now.value) (lines_in c.loop-at.recalls.value) (lines_in c.queue_recall.new.recalls.value) k c.loop-at-test.true top
          (c.loop-at.invariant.lines k) (c.queue_recall.ensures.lines k);
      keys = c.queue_recall.ensures.keys ∙ c.loop-at.invariant.keys;
      room = (let was = c.loop-at.invariant.room in let left = c.queue_recall.ensures.room in let some = c.loop-at-test.true in omega arith);
    }
