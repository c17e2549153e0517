use Rattle.std.proofs.Common.{◌∙◌, refl, ap}
use Rattle.std.specs.Prelude.{None}
use Rattle.cta_model.specs.declared.asks.Ask.TheVariants as ask
use Rattle.cta_model.specs.Answers.{is_accepted}
use Rattle.archive_state.proofs.Mounted.{kept_with}
use Rattle.archive_state.proofs.Moves.{can_carry_out, state_after}
use Rattle.archive.proofs.FileRefused.{delete_accepted}
use Rattle.archive.proofs.Refused.{is_refused}
use Rattle.archive.proofs.deletes.delete.Goals as goal
use Rattle.archive.proofs.deletes.delete.Goals.{in-Err, in-Ok}

pub returns-in-Some-clause-answer : goal.returns-in-Some-clause-answer
returns-in-Some-clause-answer g c = is_refused _ c.in-Some.refusal (c.refusal_of_delete.ensures c.args.at c.args.who ∙ c.in-Some.is)

pub delete_file-requires : goal.delete_file-requires
delete_file-requires g c = can_carry_out c.state.inside.site c.state.inside.history.value c.state.inside.parts c.state.inside.shelf c.args.at (ask.Delete c.args.who c.args.path) c.state.invariant c.requires tt (rw (← c.state.view_is) at (delete_accepted c.args.state.now.site c.args.state.now.history c.args.at c.args.who c.args.path (c.refusal_of_delete.ensures c.args.at c.args.who ∙ c.in_default.is)))

pub invariant_of-state : goal.invariant_of-state
invariant_of-state g c =
    let accepted = rw (← c.state.view_is) at (delete_accepted c.args.state.now.site c.args.state.now.history c.args.at c.args.who c.args.path (c.refusal_of_delete.ensures c.args.at c.args.who ∙ c.in_default.is)) in
    state_after c.state.inside.site c.state.inside.history.value c.args.at (ask.Delete c.args.who c.args.path) c.delete_file.result c.delete_file.new.history.value c.state.inside.parts c.delete_file.new.parts c.state.inside.shelf c.state.invariant c.requires tt refl accepted
    c.delete_file.ensures.carried

pub returns-clause-kept : goal.returns-clause-kept
returns-clause-kept g c =
    let accepted = rw (← c.state.view_is) at (delete_accepted c.args.state.now.site c.args.state.now.history c.args.at c.args.who c.args.path (c.refusal_of_delete.ensures c.args.at c.args.who ∙ c.in_default.is)) in
    elim c.match-delete_file.branch [
      | in-Ok w ↦ rw (w.result-is, ← c.state.view_is)
          (kept_with c.state.inside.site c.state.inside.history.value c.delete_file.new.history.value c.args.at (ask.Delete c.args.who c.args.path) _ None c.state.inside.shelf c.state.inside.shelf (ap is_accepted w.in-Ok.ensures.carried.answer ∙ accepted) w.in-Ok.ensures.carried.entry refl)
      | in-Err w ↦ rw w.result-is tt
    ]
