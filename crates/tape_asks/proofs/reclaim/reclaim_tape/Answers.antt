use Rattle.std.proofs.Common.{◌≡◌, ◌∷◌, subst}
use Rattle.cta_model.specs.declared.answers.Answer.TheVariants as answer
use Rattle.cta_model.specs.declared.asks.Ask.TheVariants as ask
use Rattle.cta_model.specs.History.{History, moment_of}
use Rattle.cta_model.specs.Legal.{new_entry}
use Rattle.archive_parts.proofs.Behind.{carried_behind}
use Rattle.tape_asks.proofs.Reclaims.{reclaim_answered, reclaim_empty}
use Rattle.tape_asks.proofs.reclaim.reclaim_tape.Goals as goal

pub turn_back-requires-clause-empty : goal.turn_back-requires-clause-empty
turn_back-requires-clause-empty c = reclaim_empty c.args.site.now c.args.history.now.value c.args.at c.args.who c.args.tape c.args.parts.now c.requires.legal c.requires.kept c.requires.accepted

pub returns-clause-carried : goal.returns-clause-carried
returns-clause-carried c =
    let h : History = c.args.history.now.value in
    carried_behind c.args.site.now h c.append.new.self.value c.args.at (ask.Reclaim c.args.who c.args.tape) answer.Done c.args.parts.now c.turn_back.new.parts c.kept_parts_move.ensures c.requires
    (reclaim_answered c.args.site.now h c.args.at c.args.who c.args.tape c.requires.accepted)
    (c.turn_back.ensures c.args.site.now h (moment_of h c.args.at) c.args.who c.requires.kept)
    (subst (λ (x : History). c.append.new.self.value ≡ new_entry x c.args.at (ask.Reclaim c.args.who c.args.tape) answer.Done ∷ x) c.in-Ok.ensures.entries c.append.ensures)
