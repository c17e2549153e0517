use Rattle.std.proofs.Common.{◌+◌, ◌≤◌, ◌∙◌, ◌++◌, List, [], ◌∷◌, ap, arith}
use Rattle.cta_model.specs.declared.asks.Job.{Job}
use Rattle.part_model.specs.Queues.{lines_in}
use Rattle.part_answers.proofs.Walks.{walk_ends, walk_full, walk_steps}
use Rattle.part_answers.proofs.batch_jobs.taken_jobs.Goals as goal

pub returns-in_default-clause-jobs : goal.returns-in_default-clause-jobs
returns-in_default-clause-jobs c = (walk_ends (lines_in c.args.queues.now.value c.args.key) c.args.count c.args.room c.loop.counter _ c.loop.last c.loop.bytes c.in_default.ensures c.loop.invariant).0

pub returns-in_default-clause-bytes : goal.returns-in_default-clause-bytes
returns-in_default-clause-bytes c = (walk_ends (lines_in c.args.queues.now.value c.args.key) c.args.count c.args.room c.loop.counter _ c.loop.last c.loop.bytes c.in_default.ensures c.loop.invariant).1

pub overflow_add-bytes : goal.overflow_add-bytes
overflow_add-bytes c =
    let w = walk_steps (lines_in c.args.queues.now.value c.args.key) c.args.count c.args.room c.loop.counter _ _ c.loop.last c.loop.bytes c.in-Some.line c.keeps_order.ensures c.loop-test.true c.in-Some.ensures (c.push.ensures.items ∙ ap (λ (js : List Job). js ++ c.in-Some.line.job ∷ []) c.reserve.ensures.items) c.loop.invariant in
    let within : c.loop.bytes + c.in-Some.line.len ≤ c.args.room = w.within in
    omega arith

pub loop-preserved : goal.loop-preserved
loop-preserved c = walk_steps (lines_in c.args.queues.now.value c.args.key) c.args.count c.args.room c.loop.counter _ _ c.loop.last c.loop.bytes c.in-Some.line c.keeps_order.ensures c.loop-test.true c.in-Some.ensures (c.push.ensures.items ∙ ap (λ (js : List Job). js ++ c.in-Some.line.job ∷ []) c.reserve.ensures.items) c.loop.invariant

pub returns-clause-jobs : goal.returns-clause-jobs
returns-clause-jobs c = (walk_full (lines_in c.args.queues.now.value c.args.key) c.args.count c.args.room c.loop.counter _ c.loop.last c.loop.bytes (let f = c.loop-test.false in omega arith) c.loop.invariant).0

pub returns-clause-bytes : goal.returns-clause-bytes
returns-clause-bytes c = (walk_full (lines_in c.args.queues.now.value c.args.key) c.args.count c.args.room c.loop.counter _ c.loop.last c.loop.bytes (let f = c.loop-test.false in omega arith) c.loop.invariant).1
