use Rattle.std.proofs.Common.{ap, sym, ◌∙◌}
use Rattle.std.specs.Prelude.{slice_get}
use Rattle.cta_model.specs.Stages.{StageRequest}
use Rattle.stage_book.specs.FileRows.{file_of}
use Rattle.stage_book.specs.Reports.{state_of}
use Rattle.stage_book.proofs.Lists.{slice_map}
use Rattle.stage_book.proofs.row.RequestRow.state.Goals as goal

pub returns : goal.returns
returns c =
    ap (λ (r : StageRequest). state_of (slice_get r.files c.args.at)) (sym c.self.view_is)
    ∙ ap state_of (slice_map file_of c.self.inside.rows.entries c.args.at (c.entry_at.result.0.now, c.entry_at.result.1.now) c.entry_at.ensures)
