use Rattle.std.proofs.Common.{◌≡◌, ◌+◌, ◌<◌, ◌^◌, ◌∷◌, length, sym, subst}
use Rattle.cta_site.specs.Laws.{ClassesAreKnown}
use Rattle.cta_site.specs.WellFormed.{IsWellFormed}
use Rattle.cta_model.specs.declared.answers.Answer.TheVariants as answer
use Rattle.cta_model.specs.declared.asks.Ask.TheVariants as ask
use Rattle.cta_model.specs.History.{History, moment_of}
use Rattle.cta_model.specs.Legal.{new_entry}
use Rattle.archive_parts.proofs.Behind.{carried_behind, few_entries}
use Rattle.caller_asks.proofs.DropCalls.{drop_answered}
use Rattle.caller_asks.proofs.Standing.{places_low, recalls_stand}
use Rattle.caller_asks.proofs.drops.drop_request.Goals as goal

pub drop_files-requires-clause-keys : goal.drop_files-requires-clause-keys
drop_files-requires-clause-keys c = places_low c.places_are_on_site.ensures c.args.site.now c.args.history.now.value c.args.parts.now c.requires.legal c.requires.kept

pub drop_files-requires-clause-stands : goal.drop_files-requires-clause-stands
drop_files-requires-clause-stands c =
    recalls_stand c.args.site.now c.args.history.now.value c.args.parts.now (subst ClassesAreKnown c.site-rules.ensures c.numbers_are_known.ensures.classes) c.requires.legal c.requires.kept

pub append-requires-clause-few : goal.append-requires-clause-few
append-requires-clause-few c =
    subst (λ (g : History). length g + 2 < 2 ^ 32) (sym c.in-Ok.ensures.entries)
    (few_entries c.args.site.now c.args.history.now.value c.stays_short.ensures (subst IsWellFormed c.site-rules.ensures c.keeps_rules.ensures.parts) c.requires.legal)

pub returns-clause-carried : goal.returns-clause-carried
returns-clause-carried c =
    let site = c.args.site.now in
    let h : History = c.args.history.now.value in
    carried_behind site h c.append.new.self.value c.args.at (ask.DropStage c.args.who c.args.id) answer.Done c.args.parts.now c.drop_files.new.parts c.kept_parts_move.ensures c.requires
    (drop_answered site h c.args.at c.args.id c.args.who c.requires.accepted)
    (c.drop_files.ensures site h (moment_of h c.args.at) c.args.who c.requires.kept)
    (subst (λ (g : History). c.append.new.self.value ≡ new_entry g c.args.at (ask.DropStage c.args.who c.args.id) answer.Done ∷ g) c.in-Ok.ensures.entries c.append.ensures)
