use Rattle.std.proofs.Common.{◌≡◌, ◌∷◌, subst}
use Rattle.cta_model.specs.declared.answers.Answer.TheVariants as answer
use Rattle.cta_model.specs.declared.asks.Ask.TheVariants as ask
use Rattle.cta_model.specs.History.{History, moment_of}
use Rattle.cta_model.specs.Legal.{new_entry}
use Rattle.archive_parts.proofs.Behind.{carried_behind}
use Rattle.drive_asks.proofs.TurnedDrives.{down_answered}
use Rattle.drive_asks.proofs.drives.set_drive_down.Goals as goal

pub returns-clause-carried : goal.returns-clause-carried
returns-clause-carried c =
    let h : History = c.args.history.now.value in
    carried_behind c.args.site.now h c.append.new.self.value c.args.at (ask.DriveDown c.args.who c.args.drive) answer.Done c.args.parts.now c.turn_down.new.parts c.kept_parts_move.ensures c.requires
    (down_answered c.args.site.now h c.args.at c.args.who c.args.drive c.requires.accepted)
    (c.turn_down.ensures c.args.site.now h (moment_of h c.args.at) c.args.who c.requires.kept)
    (subst (λ (x : History). c.append.new.self.value ≡ new_entry x c.args.at (ask.DriveDown c.args.who c.args.drive) answer.Done ∷ x) c.in-Ok.ensures.entries c.append.ensures)
