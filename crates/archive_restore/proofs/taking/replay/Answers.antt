use Rattle.std.proofs.Common.{rules, ◌∙◌}
use Rattle.std.proofs.lemmas.Iterator.Adapters.{YieldsList-from_vec}
use Rattle.std.proofs.lemmas.Iterator.Consumers.{YieldsList-so_far, YieldsList-turn}
use Rattle.archive_restore.proofs.Followed.{first_wrong_of, log_more, split_at, told_more}
use Rattle.archive_restore.proofs.Taken.{same_error}
use Rattle.archive_restore.proofs.taking.replay.Goals as goal

pub loop-kept-preserved : goal.loop-kept-preserved
loop-kept-preserved c =
    let was = c.loop-kept.invariant in
    let now = c.in_default.ensures in
    record {
      right = log_more _ _ _ c.loop-kept.yielded c.in-Some.kept was.site was.history was.right now.right;
      site = now.site ∙ was.site;
      history = told_more _ _ c.loop-kept.yielded c.in-Some.kept was.history now.history;
      contents = now.contents;
    }

pub returns-in-Err-clause-differs : goal.returns-in-Err-clause-differs
returns-in-Err-clause-differs c = λ n is.
    let was = c.loop-kept.invariant in
    let all = YieldsList-from_vec {s = c.into_iter-kept-iterator.result} c.args.log.items (search rules) (search rules) in
    let so_far = YieldsList-so_far all c.loop-kept.yielded c.loop-kept.kept-iterator c.loop-kept.yielded_by in
    let turn = YieldsList-turn all c.loop-kept.yielded c.loop-kept.kept-iterator c.loop-kept.yielded_by c.next.result c.next.new.self c.in-Some.kept c.in-Some.is c.next.ensures.steps in
    first_wrong_of c.args.site c.loop-kept.replayer.archive.site c.in_ok-replayer.replayer.archive.site c.args.log.items c.loop-kept.yielded c.in-Some.kept _ n c.loop-kept.replayer.archive.history
    c.in_ok-replayer.ensures.site was.site (split_at c.args.log.items c.loop-kept.yielded c.in-Some.kept so_far turn.0 turn.1) was.history was.right (c.in-Err.ensures.wrong n (same_error c.in-Err.error _ is))
