use Rattle.std.proofs.Common.{◌∙◌, sym, ap}
use Rattle.cta_model.specs.Answers.{is_accepted}
use Rattle.archive.proofs.Answered.{end_accepted, end_hand, end_refused}
use Rattle.archive.proofs.ends.end.Goals as goal

pub returns-then-not-may_end-clause-answer : goal.returns-then-not-may_end-clause-answer
returns-then-not-may_end-clause-answer g c = end_refused c.args.state.now.site c.args.state.now.history c.args.at c.args.mount c.args.fault (sym c.may_end.ensures ∙ c.if-not-may_end.true)

pub end-requires-clause-accepted : goal.end-requires-clause-accepted
end-requires-clause-accepted g c = end_accepted c.args.state.now.site c.args.state.now.history c.args.at c.args.mount c.args.fault (sym c.may_end.ensures ∙ c.if-not-may_end.false)

pub returns-in-Ok-clause-hand : goal.returns-in-Ok-clause-hand
returns-in-Ok-clause-hand g c =
    let accepted = end_accepted c.args.state.now.site c.args.state.now.history c.args.at c.args.mount c.args.fault (sym c.may_end.ensures ∙ c.if-not-may_end.false) in
    end_hand g.M.Told.told _ _ c.args.mount c.args.fault _ _ _ (ap is_accepted c.in-Ok.ensures.answer ∙ accepted)
