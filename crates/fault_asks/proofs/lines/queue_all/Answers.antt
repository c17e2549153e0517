use Rattle.std.proofs.Common.{◌∙◌, ◌-◌, ◌<◌, ◌≤◌, arith, length}
use Rattle.part_model.specs.Queues.{lines_in}
use Rattle.fault_asks.specs.Retrying.{CanQueue}
use Rattle.fault_asks.proofs.JobLoops.{all_at, back_added, back_fits, back_lacks}
use Rattle.fault_asks.proofs.lines.queue_all.Goals as goal

pub queue_write-requires-clause-put : goal.queue_write-requires-clause-put
queue_write-requires-clause-put c =
    let low : c.loop-at.at - 1 < length c.args.jobs.now = (let up = c.loop-at.auto.at in let some = c.loop-at-test.true in omega arith) in
    (all_at (CanQueue c.args.site.now c.args.history.now.value (lines_in c.args.pools.now.value)) c.args.jobs.now (c.loop-at.at - 1) _ c.requires.jobs low).put

pub queue_write-requires-clause-from : goal.queue_write-requires-clause-from
queue_write-requires-clause-from c =
    let low : c.loop-at.at - 1 < length c.args.jobs.now = (let up = c.loop-at.auto.at in let some = c.loop-at-test.true in omega arith) in
    (all_at (CanQueue c.args.site.now c.args.history.now.value (lines_in c.args.pools.now.value)) c.args.jobs.now (c.loop-at.at - 1) _ c.requires.jobs low).from

pub queue_write-requires-clause-to : goal.queue_write-requires-clause-to
queue_write-requires-clause-to c =
    let low : c.loop-at.at - 1 < length c.args.jobs.now = (let up = c.loop-at.auto.at in let some = c.loop-at-test.true in omega arith) in
    (all_at (CanQueue c.args.site.now c.args.history.now.value (lines_in c.args.pools.now.value)) c.args.jobs.now (c.loop-at.at - 1) _ c.requires.jobs low).to

pub queue_write-requires-clause-lacks : goal.queue_write-requires-clause-lacks
queue_write-requires-clause-lacks c =
    let top : c.loop-at.at ≤ length c.args.jobs.now = (let up = c.loop-at.auto.at in omega arith) in
    λ k. back_lacks c.args.site.now c.args.history.now.value c.loop-at.at _ c.args.jobs.now (lines_in c.args.pools.now.value) (lines_in c.loop-at.pools.value) k c.loop-at-test.true top c.requires.once c.requires.jobs (c.loop-at.invariant.lines k)

pub queue_write-requires-clause-fits : goal.queue_write-requires-clause-fits
queue_write-requires-clause-fits c =
    let top : c.loop-at.at ≤ length c.args.jobs.now = (let up = c.loop-at.auto.at in omega arith) in
    λ k. back_fits c.args.site.now c.args.history.now.value c.loop-at.at _ c.args.jobs.now (lines_in c.args.pools.now.value) (lines_in c.loop-at.pools.value) k c.loop-at-test.true top c.requires.small (c.loop-at.invariant.lines k) (c.requires.fits k)

pub loop-at-preserved : goal.loop-at-preserved
loop-at-preserved c =
    let top : c.loop-at.at ≤ length c.args.jobs.now = (let up = c.loop-at.auto.at in omega arith) in
    record {
      lines = λ k. back_added c.args.site.now c.args.history.now.value c.loop-at.at _ c.args.jobs.now (lines_in c.args.pools.now.value) (lines_in c.loop-at.pools.value) (lines_in c.queue_write.new.pools.value) k c.loop-at-test.true top (c.loop-at.invariant.lines k) (c.queue_write.ensures.lines k);
      keys = c.queue_write.ensures.keys ∙ c.loop-at.invariant.keys;
      room = (let was = c.loop-at.invariant.room in let left = c.queue_write.ensures.room in let some = c.loop-at-test.true in omega arith);
    }
