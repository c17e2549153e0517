use Rattle.std.proofs.Common.{◌∙◌, sym, ap, subst}
use Rattle.std.specs.Prelude.{None}
use Rattle.cta_model.specs.declared.answers.Answer.{Answer}
use Rattle.cta_model.specs.declared.asks.Ask.TheVariants as ask
use Rattle.cta_model.specs.Answers.{is_accepted}
use Rattle.cta_model.specs.History.{History}
use Rattle.cta_model.specs.Kept.{shelf_after}
use Rattle.cta_model.specs.Media.{IsMediumOf}
use Rattle.archive_state.specs.States.{IsState}
use Rattle.archive_state.proofs.Mounted.{kept_with, mounts_choice, none_taken, state_opens, taken_true, takes_out}
use Rattle.archive_state.proofs.Moves.{can_carry_out}
use Rattle.archive_state.proofs.state.ArchiveState.open.Goals as goal

pub open_mount-requires-clause-carrying : goal.open_mount-requires-clause-carrying
open_mount-requires-clause-carrying g c = can_carry_out c.self.inside.site c.self.inside.history.value c.self.inside.parts c.self.inside.shelf c.args.at (ask.Next c.args.drive) c.self.invariant c.requires.at (rw (← c.self.view_is) at c.requires.fit) (rw (← c.self.view_is) at c.requires.accepted)

pub unreachable-requires : goal.unreachable-requires
unreachable-requires g c =
    let opened = state_opens c.self.inside.site c.self.inside.history.value c.args.at c.args.drive c.args.choice _ c.self.inside.parts c.open_mount.new.parts c.self.inside.shelf c.take.new.self c.self.invariant c.requires.at (rw (← c.self.view_is) at c.requires.fit)
    (rw (← c.self.view_is) at c.requires.accepted) (rw (← c.self.view_is) at c.requires.choice) c.in_ok-answer.ensures.carried.answer (rw c.in_ok-answer.ensures.carried.entry at c.in_ok-answer.ensures.carried.kept) c.take.ensures.places in
    none_taken g.M.Told.told _ opened.there.0 c.take.result c.take.ensures.told opened.there.1 c.in-None.is

pub invariant_of-self-2 : goal.invariant_of-self-2
invariant_of-self-2 g c =
    let opened = state_opens c.self.inside.site c.self.inside.history.value c.args.at c.args.drive c.args.choice _ c.self.inside.parts c.open_mount.new.parts c.self.inside.shelf c.take.new.self c.self.invariant c.requires.at (rw (← c.self.view_is) at c.requires.fit)
    (rw (← c.self.view_is) at c.requires.accepted) (rw (← c.self.view_is) at c.requires.choice) c.in_ok-answer.ensures.carried.answer (rw c.in_ok-answer.ensures.carried.entry at c.in_ok-answer.ensures.carried.kept) c.take.ensures.places in
    subst (λ (h : History). IsState c.self.inside.site h c.open_mount.new.parts c.take.new.self) (sym c.in_ok-answer.ensures.carried.entry) opened.state

pub returns-clause-medium : goal.returns-clause-medium
returns-clause-medium g c =
    let opened = state_opens c.self.inside.site c.self.inside.history.value c.args.at c.args.drive c.args.choice _ c.self.inside.parts c.open_mount.new.parts c.self.inside.shelf c.take.new.self c.self.invariant c.requires.at (rw (← c.self.view_is) at c.requires.fit)
    (rw (← c.self.view_is) at c.requires.accepted) (rw (← c.self.view_is) at c.requires.choice) c.in_ok-answer.ensures.carried.answer (rw c.in_ok-answer.ensures.carried.entry at c.in_ok-answer.ensures.carried.kept) c.take.ensures.places in
    subst (λ (h : History). IsMediumOf h c.args.choice.tape (g.M.Told.told c.in-Some.medium)) (sym c.in_ok-answer.ensures.carried.entry)
    (taken_true g.M.Told.told _ c.args.choice.tape _ opened.there.0 c.take.result c.in-Some.medium c.in-Some.is c.take.ensures.told opened.there.1 opened.there.2)

pub returns-clause-kept : goal.returns-clause-kept
returns-clause-kept g c =
    let accepted = rw (← c.self.view_is) at c.requires.accepted in
    let mounted = mounts_choice c.self.inside.site c.self.inside.history.value c.args.at c.args.drive c.args.choice _ accepted (rw (← c.self.view_is) at c.requires.choice) c.in_ok-answer.ensures.carried.answer in
    rw (← c.self.view_is)
    (kept_with c.self.inside.site c.self.inside.history.value c.open_mount.new.history.value c.args.at (ask.Next c.args.drive) _ None c.self.inside.shelf c.take.new.self (ap is_accepted c.in_ok-answer.ensures.carried.answer ∙ accepted) c.in_ok-answer.ensures.carried.entry
    (c.take.ensures.places ∙ ap (λ (a : Answer). shelf_after (ask.Next c.args.drive) a None c.self.inside.shelf) (sym mounted)))

pub returns-clause-shelf : goal.returns-clause-shelf
returns-clause-shelf g c =
    let accepted = rw (← c.self.view_is) at c.requires.accepted in
    let mounted = mounts_choice c.self.inside.site c.self.inside.history.value c.args.at c.args.drive c.args.choice _ accepted (rw (← c.self.view_is) at c.requires.choice) c.in_ok-answer.ensures.carried.answer in
    rw (← c.self.view_is) (takes_out g.M.Told.told c.self.inside.shelf c.args.drive _ c.args.choice.tape c.args.choice.direction _ c.in-Some.medium c.take.result mounted c.in-Some.is c.take.ensures.told)
