use Rattle.std.proofs.Common.{◌∙◌, sym, ap}
use Rattle.cta_model.specs.Answers.{is_accepted}
use Rattle.archive.proofs.Answered.{fail_accepted, fail_hand, fail_refused}
use Rattle.archive.proofs.faults.failed.Goals as goal

pub returns-then-not-knows_jobs-clause-answer : goal.returns-then-not-knows_jobs-clause-answer
returns-then-not-knows_jobs-clause-answer g c =
    fail_refused c.args.state.now.site c.args.state.now.history c.args.at c.args.mount c.args.fault c.args.charged.items c.args.returned.items (rw (c.as_slice.ensures, c.as_slice-2.ensures) at (sym c.knows_jobs.ensures ∙ c.if-not-knows_jobs.true))

pub fail-requires-clause-accepted : goal.fail-requires-clause-accepted
fail-requires-clause-accepted g c =
    fail_accepted c.args.state.now.site c.args.state.now.history c.args.at c.args.mount c.args.fault c.args.charged.items c.args.returned.items (rw (c.as_slice.ensures, c.as_slice-2.ensures) at (sym c.knows_jobs.ensures ∙ c.if-not-knows_jobs.false))

pub returns-in-Ok-clause-hand : goal.returns-in-Ok-clause-hand
returns-in-Ok-clause-hand g c =
    let accepted = fail_accepted c.args.state.now.site c.args.state.now.history c.args.at c.args.mount c.args.fault c.args.charged.items c.args.returned.items (rw (c.as_slice.ensures, c.as_slice-2.ensures) at (sym c.knows_jobs.ensures ∙ c.if-not-knows_jobs.false)) in
    fail_hand g.M.Told.told _ _ c.args.mount c.args.fault _ _ _ _ _ (ap is_accepted c.in-Ok.ensures.answer ∙ accepted)
