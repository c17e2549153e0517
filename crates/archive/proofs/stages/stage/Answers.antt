use Rattle.std.proofs.Common.{◌∙◌, refl, sym, ap}
use Rattle.std.specs.Prelude.{None}
use Rattle.cta_site.specs.Listed.{rows}
use Rattle.cta_model.specs.declared.asks.Ask.TheVariants as ask
use Rattle.cta_model.specs.Answers.{is_accepted}
use Rattle.archive_state.proofs.Mounted.{kept_with}
use Rattle.archive_state.proofs.Moves.{can_carry_out, state_after}
use Rattle.archive.proofs.StageRefused.{stage_accepted, stage_heavy}
use Rattle.archive.proofs.stages.stage.Goals as goal
use Rattle.archive.proofs.stages.stage.Goals.{in-Err, in-Ok}

pub returns-then-would_pass-clause-answer : goal.returns-then-would_pass-clause-answer
returns-then-would_pass-clause-answer g c = stage_heavy c.args.state.now.site c.args.state.now.history c.args.at c.args.who c.args.files.items (rw c.len.ensures at (sym c.would_pass.ensures ∙ c.if-would_pass.true))

pub stage-requires : goal.stage-requires
stage-requires g c = can_carry_out c.state.inside.site c.state.inside.history.value c.state.inside.parts c.state.inside.shelf c.args.at (ask.Stage c.args.who (rows c.args.files.items)) c.state.invariant c.requires tt (rw (← c.state.view_is) at (stage_accepted c.args.state.now.site c.args.state.now.history c.args.at c.args.who c.args.files.items (rw c.len.ensures at (sym c.would_pass.ensures ∙ c.if-would_pass.false))))

pub invariant_of-state : goal.invariant_of-state
invariant_of-state g c =
    let accepted = rw (← c.state.view_is) at (stage_accepted c.args.state.now.site c.args.state.now.history c.args.at c.args.who c.args.files.items (rw c.len.ensures at (sym c.would_pass.ensures ∙ c.if-would_pass.false))) in
    state_after c.state.inside.site c.state.inside.history.value c.args.at (ask.Stage c.args.who (rows c.args.files.items)) c.stage.result c.stage.new.history.value c.state.inside.parts c.stage.new.parts c.state.inside.shelf c.state.invariant c.requires tt refl accepted
    c.stage.ensures.carried

pub returns-clause-kept : goal.returns-clause-kept
returns-clause-kept g c =
    let accepted = rw (← c.state.view_is) at (stage_accepted c.args.state.now.site c.args.state.now.history c.args.at c.args.who c.args.files.items (rw c.len.ensures at (sym c.would_pass.ensures ∙ c.if-would_pass.false))) in
    elim c.match-stage.branch [
      | in-Ok w ↦ rw (w.result-is, ← c.state.view_is)
          (kept_with c.state.inside.site c.state.inside.history.value c.stage.new.history.value c.args.at (ask.Stage c.args.who (rows c.args.files.items)) _ None c.state.inside.shelf c.state.inside.shelf (ap is_accepted w.in-Ok.ensures.carried.answer ∙ accepted) w.in-Ok.ensures.carried.entry refl)
      | in-Err w ↦ rw w.result-is tt
    ]
