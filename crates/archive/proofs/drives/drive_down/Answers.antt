use Rattle.std.proofs.Common.{◌∙◌, refl, ap}
use Rattle.std.specs.Prelude.{None}
use Rattle.cta_model.specs.declared.asks.Ask.TheVariants as ask
use Rattle.cta_model.specs.Answers.{is_accepted}
use Rattle.archive_state.proofs.Mounted.{kept_with}
use Rattle.archive_state.proofs.Moves.{can_carry_out, state_after}
use Rattle.archive.proofs.AdminRefused.{down_accepted}
use Rattle.archive.proofs.Refused.{is_refused}
use Rattle.archive.proofs.drives.drive_down.Goals as goal
use Rattle.archive.proofs.drives.drive_down.Goals.{in-Err, in-Ok}

pub returns-in-Some-clause-answer : goal.returns-in-Some-clause-answer
returns-in-Some-clause-answer g c = is_refused _ c.in-Some.refusal (c.refusal_of_drive.ensures.down c.args.at c.args.who ∙ c.in-Some.is)

pub set_drive_down-requires : goal.set_drive_down-requires
set_drive_down-requires g c = can_carry_out c.state.inside.site c.state.inside.history.value c.state.inside.parts c.state.inside.shelf c.args.at (ask.DriveDown c.args.who c.args.drive) c.state.invariant c.requires tt (rw (← c.state.view_is) at (down_accepted c.args.state.now.site c.args.state.now.history c.args.at c.args.who c.args.drive (c.refusal_of_drive.ensures.down c.args.at c.args.who ∙ c.in_default.is)))

pub invariant_of-state : goal.invariant_of-state
invariant_of-state g c =
    let accepted = rw (← c.state.view_is) at (down_accepted c.args.state.now.site c.args.state.now.history c.args.at c.args.who c.args.drive (c.refusal_of_drive.ensures.down c.args.at c.args.who ∙ c.in_default.is)) in
    state_after c.state.inside.site c.state.inside.history.value c.args.at (ask.DriveDown c.args.who c.args.drive) c.set_drive_down.result c.set_drive_down.new.history.value c.state.inside.parts c.set_drive_down.new.parts c.state.inside.shelf c.state.invariant c.requires tt refl accepted
    c.set_drive_down.ensures.carried

pub returns-clause-kept : goal.returns-clause-kept
returns-clause-kept g c =
    let accepted = rw (← c.state.view_is) at (down_accepted c.args.state.now.site c.args.state.now.history c.args.at c.args.who c.args.drive (c.refusal_of_drive.ensures.down c.args.at c.args.who ∙ c.in_default.is)) in
    elim c.match-set_drive_down.branch [
      | in-Ok w ↦ rw (w.result-is, ← c.state.view_is)
          (kept_with c.state.inside.site c.state.inside.history.value c.set_drive_down.new.history.value c.args.at (ask.DriveDown c.args.who c.args.drive) _ None c.state.inside.shelf c.state.inside.shelf (ap is_accepted w.in-Ok.ensures.carried.answer ∙ accepted) w.in-Ok.ensures.carried.entry refl)
      | in-Err w ↦ rw w.result-is tt
    ]
