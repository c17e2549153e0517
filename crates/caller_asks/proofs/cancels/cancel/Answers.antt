use Rattle.std.proofs.Common.{◌≡◌, ◌∙◌, ◌+◌, ◌<◌, ◌^◌, ◌∷◌, ℕ, List, length, ap, sym, subst}
use Rattle.std.specs.List.{filter_map}
use Rattle.cta_site.specs.Laws.{ClassesAreKnown}
use Rattle.cta_site.specs.Listed.{rows}
use Rattle.cta_site.specs.WellFormed.{IsWellFormed}
use Rattle.cta_model.specs.declared.answers.Answer.TheVariants as answer
use Rattle.cta_model.specs.declared.asks.Ask.TheVariants as ask
use Rattle.cta_model.specs.declared.entries.Actor.TheVariants as actor
use Rattle.cta_model.specs.History.{History}
use Rattle.cta_model.specs.Legal.{new_entry}
use Rattle.part_model.specs.Names.{file_in}
use Rattle.archive_parts.specs.Called.{AreKeptCalled}
use Rattle.archive_parts.proofs.Behind.{carried_behind, few_entries}
use Rattle.caller_asks.proofs.CancelCalls.{cancel_answered}
use Rattle.caller_asks.proofs.Standing.{places_low, recalls_stand}
use Rattle.caller_asks.proofs.cancels.cancel.Goals as goal

pub cancel_files-requires-clause-keys : goal.cancel_files-requires-clause-keys
cancel_files-requires-clause-keys c = places_low c.places_are_on_site.ensures c.args.site.now c.args.history.now.value c.args.parts.now c.requires.legal c.requires.kept

pub cancel_files-requires-clause-stands : goal.cancel_files-requires-clause-stands
cancel_files-requires-clause-stands c =
    recalls_stand c.args.site.now c.args.history.now.value c.args.parts.now (subst ClassesAreKnown c.site-rules.ensures c.numbers_are_known.ensures.classes) c.requires.legal c.requires.kept

pub append-requires-clause-few : goal.append-requires-clause-few
append-requires-clause-few c =
    subst (λ (g : History). length g + 2 < 2 ^ 32) (sym c.in-Ok.ensures.entries)
    (few_entries c.args.site.now c.args.history.now.value c.stays_short.ensures (subst IsWellFormed c.site-rules.ensures c.keeps_rules.ensures.parts) c.requires.legal)

pub returns-clause-carried : goal.returns-clause-carried
returns-clause-carried c =
    let site = c.args.site.now in
    let h : History = c.args.history.now.value in
    carried_behind site h c.append.new.self.value c.args.at (ask.Cancel c.args.who c.args.id (rows c.args.paths.items)) answer.Done c.args.parts.now c.cancel_files.new.parts c.kept_parts_move.ensures c.requires
    (cancel_answered site h c.args.at c.args.id c.args.who c.args.paths.items c.requires.accepted)
    (subst (λ (t : ℕ). AreKeptCalled site h (record { at = t; actor = actor.Caller c.args.who; ask = ask.Cancel c.args.who c.args.id (rows c.args.paths.items); answer = answer.Done }) c.args.parts.now c.cancel_files.new.parts) c.moment_of-now.ensures
    (c.cancel_files.ensures site h c.args.who c.args.paths.items c.requires.legal c.requires.kept
    (c.as_slice-2.ensures.value ∙ c.in-Ok.ensures.files ∙ ap (λ (ps : List (List ℕ)). filter_map (file_in c.args.parts.now.names) ps) c.as_slice.ensures)))
    (subst (λ (g : History). c.append.new.self.value ≡ new_entry g c.args.at (ask.Cancel c.args.who c.args.id (rows c.args.paths.items)) answer.Done ∷ g) c.in-Ok.ensures.entries c.append.ensures)
