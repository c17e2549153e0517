use Rattle.std.proofs.Common.{◌∙◌, not, sym, ap}
use Rattle.archive.proofs.StageRefused.{cancel_told, release_told}
use Rattle.archive.proofs.Refused.{none_is}
use Rattle.archive.proofs.stage_refusals.refusal_of_paths.Goals as goal

pub returns-clause-cancel : goal.returns-clause-cancel
returns-clause-cancel g c at who =
    cancel_told c.args.state.now.site c.args.state.now.history at who c.args.id c.args.paths.now (not c.knows_request-known.result) (not c.has_paths-own.result) c.would_pass-heavy.result (ap not c.knows_request-known.ensures ∙ none_is _) (ap not c.has_paths-own.ensures) c.would_pass-heavy.ensures
    ∙ sym c.first_of_paths.ensures

pub returns-clause-release : goal.returns-clause-release
returns-clause-release g c at who =
    release_told c.args.state.now.site c.args.state.now.history at who c.args.id c.args.paths.now (not c.knows_request-known.result) (not c.has_paths-own.result) c.would_pass-heavy.result (ap not c.knows_request-known.ensures ∙ none_is _) (ap not c.has_paths-own.ensures) c.would_pass-heavy.ensures
    ∙ sym c.first_of_paths.ensures
