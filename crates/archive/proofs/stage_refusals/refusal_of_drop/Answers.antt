use Rattle.std.proofs.Common.{◌∙◌, not, sym, ap}
use Rattle.archive.proofs.StageRefused.{drop_told}
use Rattle.archive.proofs.Refused.{none_is}
use Rattle.archive.proofs.stage_refusals.refusal_of_drop.Goals as goal

pub returns : goal.returns
returns g c at who =
    drop_told c.args.state.now.site c.args.state.now.history at who c.args.id (not c.knows_request-known.result) c.would_pass.result (ap not c.knows_request-known.ensures ∙ none_is _) c.would_pass.ensures
    ∙ sym c.first_of_drop.ensures
