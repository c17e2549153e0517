use Rattle.std.proofs.Common.{◌≡◌, ◌∙◌, ◌+◌, ◌<◌, ◌^◌, ◌∷◌, ℕ, List, length, ap, sym, subst}
use Rattle.cta_site.specs.Listed.{rows}
use Rattle.cta_site.specs.WellFormed.{IsWellFormed}
use Rattle.cta_model.specs.declared.answers.Answer.TheVariants as answer
use Rattle.cta_model.specs.declared.asks.Ask.TheVariants as ask
use Rattle.cta_model.specs.declared.entries.Actor.TheVariants as actor
use Rattle.cta_model.specs.History.{History, has_text, moment_of}
use Rattle.cta_model.specs.Legal.{new_entry}
use Rattle.part_model.specs.Requests.{request_in}
use Rattle.part_laws.specs.BufferCalls.{files_where}
use Rattle.archive_parts.specs.Called.{AreKeptCalled}
use Rattle.archive_parts.proofs.Behind.{carried_behind, few_entries}
use Rattle.caller_asks.proofs.ReleaseCalls.{release_answered}
use Rattle.caller_asks.proofs.releases.release.Goals as goal

pub release_paths-requires : goal.release_paths-requires
release_paths-requires c =
    c.as_slice-3.ensures.value ∙ c.in-Ok.ensures.files
    ∙ ap (λ (ps : List (List ℕ)). files_where (λ p. has_text p ps) (request_in c.args.parts.now.requests c.args.id)) c.as_slice.ensures
    ∙ sym (ap (λ (ps : List (List ℕ)). files_where (λ p. has_text p ps) (request_in c.args.parts.now.requests c.args.id)) c.as_slice-2.ensures)

pub append-requires-clause-few : goal.append-requires-clause-few
append-requires-clause-few c =
    subst (λ (g : History). length g + 2 < 2 ^ 32) (sym c.in-Ok.ensures.entries)
    (few_entries c.args.site.now c.args.history.now.value c.stays_short.ensures (subst IsWellFormed c.site.ensures c.keeps_rules.ensures.parts) c.requires.legal)

pub returns-clause-carried : goal.returns-clause-carried
returns-clause-carried c =
    let site = c.args.site.now in
    let h : History = c.args.history.now.value in
    carried_behind site h c.append.new.self.value c.args.at (ask.Release c.args.who c.args.id (rows c.args.paths.items)) answer.Done c.args.parts.now c.release_paths.new.parts c.kept_parts_move.ensures c.requires
    (release_answered site h c.args.at c.args.id c.args.who c.args.paths.items c.requires.accepted)
    (subst (λ (ps : List (List ℕ)). AreKeptCalled site h (record { at = moment_of h c.args.at; actor = actor.Caller c.args.who; ask = ask.Release c.args.who c.args.id (rows ps); answer = answer.Done }) c.args.parts.now c.release_paths.new.parts) c.as_slice-2.ensures
    (c.release_paths.ensures site h (moment_of h c.args.at) c.args.who c.requires.kept))
    (subst (λ (g : History). c.append.new.self.value ≡ new_entry g c.args.at (ask.Release c.args.who c.args.id (rows c.args.paths.items)) answer.Done ∷ g) c.in-Ok.ensures.entries c.append.ensures)
