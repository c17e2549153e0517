use Rattle.std.proofs.Common.{◌∙◌, refl, sym, ap}
use Rattle.std.specs.Prelude.{None}
use Rattle.cta_model.specs.declared.asks.Ask.TheVariants as ask
use Rattle.cta_model.specs.Answers.{is_accepted}
use Rattle.archive_state.proofs.Mounted.{kept_with}
use Rattle.archive_state.proofs.Moves.{can_carry_out, state_after}
use Rattle.archive.proofs.Answered.{recall_accepted, recall_hand, recall_refused}
use Rattle.archive.proofs.recalls.recalled.Goals as goal
use Rattle.archive.proofs.recalls.recalled.Goals.{in-Err, in-Ok}

pub returns-then-not-knows_job-clause-answer : goal.returns-then-not-knows_job-clause-answer
returns-then-not-knows_job-clause-answer g c = recall_refused c.args.state.now.site c.args.state.now.history c.args.at c.args.mount c.args.job (sym c.knows_job.ensures ∙ c.if-not-knows_job.true)

pub recall_file-requires-clause-carrying : goal.recall_file-requires-clause-carrying
recall_file-requires-clause-carrying g c =
    can_carry_out c.state.inside.site c.state.inside.history.value c.state.inside.parts c.state.inside.shelf c.args.at (ask.Recalled c.args.mount c.args.job) c.state.invariant c.requires.at (rw (← c.state.view_is) at c.requires.fit) (rw (← c.state.view_is) at (recall_accepted c.args.state.now.site c.args.state.now.history c.args.at c.args.mount c.args.job (sym c.knows_job.ensures ∙ c.if-not-knows_job.false)))

pub invariant_of-state : goal.invariant_of-state
invariant_of-state g c =
    let accepted = rw (← c.state.view_is) at (recall_accepted c.args.state.now.site c.args.state.now.history c.args.at c.args.mount c.args.job (sym c.knows_job.ensures ∙ c.if-not-knows_job.false)) in
    state_after c.state.inside.site c.state.inside.history.value c.args.at (ask.Recalled c.args.mount c.args.job) c.recall_file.result c.recall_file.new.history.value c.state.inside.parts c.recall_file.new.parts c.state.inside.shelf c.state.invariant c.requires.at (rw (← c.state.view_is) at c.requires.fit) refl accepted
    c.recall_file.ensures.carried

pub returns-clause-kept : goal.returns-clause-kept
returns-clause-kept g c =
    let accepted = rw (← c.state.view_is) at (recall_accepted c.args.state.now.site c.args.state.now.history c.args.at c.args.mount c.args.job (sym c.knows_job.ensures ∙ c.if-not-knows_job.false)) in
    elim c.match-recall_file.branch [
      | in-Ok w ↦ rw (w.result-is, ← c.state.view_is)
          (kept_with c.state.inside.site c.state.inside.history.value c.recall_file.new.history.value c.args.at (ask.Recalled c.args.mount c.args.job) _ None c.state.inside.shelf c.state.inside.shelf (ap is_accepted w.in-Ok.ensures.carried.answer ∙ accepted) w.in-Ok.ensures.carried.entry refl)
      | in-Err w ↦ rw w.result-is tt
    ]

pub returns-clause-hand : goal.returns-clause-hand
returns-clause-hand g c =
    let accepted = rw (← c.state.view_is) at (recall_accepted c.args.state.now.site c.args.state.now.history c.args.at c.args.mount c.args.job (sym c.knows_job.ensures ∙ c.if-not-knows_job.false)) in
    elim c.match-recall_file.branch [
      | in-Ok w ↦ rw w.result-is (recall_hand g.M.Told.told _ _ c.args.mount c.args.job _ _ _ (ap is_accepted w.in-Ok.ensures.carried.answer ∙ accepted))
      | in-Err w ↦ rw w.result-is tt
    ]
