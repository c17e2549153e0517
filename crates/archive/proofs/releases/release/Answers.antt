use Rattle.std.proofs.Common.{◌∙◌, refl, ap}
use Rattle.std.specs.Prelude.{None}
use Rattle.cta_site.specs.Listed.{rows}
use Rattle.cta_model.specs.declared.asks.Ask.TheVariants as ask
use Rattle.cta_model.specs.Answers.{is_accepted}
use Rattle.archive_state.proofs.Mounted.{kept_with}
use Rattle.archive_state.proofs.Moves.{can_carry_out, state_after}
use Rattle.archive.proofs.StageRefused.{release_accepted}
use Rattle.archive.proofs.Refused.{is_refused}
use Rattle.archive.proofs.releases.release.Goals as goal
use Rattle.archive.proofs.releases.release.Goals.{in-Err, in-Ok}

pub returns-in-Some-clause-answer : goal.returns-in-Some-clause-answer
returns-in-Some-clause-answer g c = rw c.as_slice.ensures at (is_refused _ c.in-Some.refusal (c.refusal_of_paths.ensures.release c.args.at c.args.who ∙ c.in-Some.is))

pub release-requires : goal.release-requires
release-requires g c = can_carry_out c.state.inside.site c.state.inside.history.value c.state.inside.parts c.state.inside.shelf c.args.at (ask.Release c.args.who c.args.id (rows c.args.paths.items)) c.state.invariant c.requires tt (rw (← c.state.view_is) at (release_accepted c.args.state.now.site c.args.state.now.history c.args.at c.args.who c.args.id c.args.paths.items (rw c.as_slice.ensures at (c.refusal_of_paths.ensures.release c.args.at c.args.who ∙ c.in_default.is))))

pub invariant_of-state : goal.invariant_of-state
invariant_of-state g c =
    let accepted = rw (← c.state.view_is) at (release_accepted c.args.state.now.site c.args.state.now.history c.args.at c.args.who c.args.id c.args.paths.items (rw c.as_slice.ensures at (c.refusal_of_paths.ensures.release c.args.at c.args.who ∙ c.in_default.is))) in
    state_after c.state.inside.site c.state.inside.history.value c.args.at (ask.Release c.args.who c.args.id (rows c.args.paths.items)) c.release.result c.release.new.history.value c.state.inside.parts c.release.new.parts c.state.inside.shelf c.state.invariant c.requires tt refl accepted
    c.release.ensures.carried

pub returns-clause-kept : goal.returns-clause-kept
returns-clause-kept g c =
    let accepted = rw (← c.state.view_is) at (release_accepted c.args.state.now.site c.args.state.now.history c.args.at c.args.who c.args.id c.args.paths.items (rw c.as_slice.ensures at (c.refusal_of_paths.ensures.release c.args.at c.args.who ∙ c.in_default.is))) in
    elim c.match-release.branch [
      | in-Ok w ↦ rw (w.result-is, ← c.state.view_is)
          (kept_with c.state.inside.site c.state.inside.history.value c.release.new.history.value c.args.at (ask.Release c.args.who c.args.id (rows c.args.paths.items)) _ None c.state.inside.shelf c.state.inside.shelf (ap is_accepted w.in-Ok.ensures.carried.answer ∙ accepted) w.in-Ok.ensures.carried.entry refl)
      | in-Err w ↦ rw w.result-is tt
    ]
