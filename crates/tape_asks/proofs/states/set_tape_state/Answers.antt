use Rattle.std.proofs.Common.{◌≡◌, ◌∷◌, refl, sym, subst}
use Rattle.cta_model.specs.declared.answers.Answer.TheVariants as answer
use Rattle.cta_model.specs.declared.asks.Ask.TheVariants as ask
use Rattle.cta_model.specs.Answers.{answer_of}
use Rattle.cta_model.specs.History.{History}
use Rattle.cta_model.specs.Legal.{new_entry}
use Rattle.cta_laws.proofs.Accepted.{answer_is}
use Rattle.archive_parts.specs.PartsKept.{ArePartsKept}
use Rattle.archive_parts.proofs.Behind.{can_over}
use Rattle.tape_asks.proofs.states.set_tape_state.Goals as goal

pub carry_out-requires-clause-carrying : goal.carry_out-requires-clause-carrying
carry_out-requires-clause-carrying c =
    let kept : ArePartsKept c.args.site.now c.args.history.now.value c.make_ready.new.parts = c.same_parts_are_kept.ensures c.args.site.now c.args.history.now.value c.args.parts.now c.make_ready.new.parts c.make_ready.ensures.parts c.requires.kept in
    can_over c.args.site.now c.args.history.now.value c.make_ready.new.history.value c.args.parts.now c.make_ready.new.parts c.args.at (ask.TapeState c.args.who c.args.tape c.args.state) c.requires kept c.make_ready.ensures.entries

pub returns-in-Ok-clause-carried : goal.returns-in-Ok-clause-carried
returns-in-Ok-clause-carried c = record {
  answer = sym (answer_is c.args.site.now c.args.history.now.value c.args.at (ask.TapeState c.args.who c.args.tape c.args.state) (answer_of c.args.site.now c.args.history.now.value c.args.at (ask.TapeState c.args.who c.args.tape c.args.state)) refl c.requires.accepted).0;
  entry = subst (λ (g : History). c.carry_out.new.history.value ≡ new_entry g c.args.at (ask.TapeState c.args.who c.args.tape c.args.state) answer.Done ∷ g) c.make_ready.ensures.entries c.carry_out.ensures.entry;
  kept = c.carry_out.ensures.kept;
  same = tt;
  still = tt;
}
