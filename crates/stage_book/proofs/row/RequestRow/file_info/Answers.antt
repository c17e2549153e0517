use Rattle.std.proofs.Common.{ap, sym, ◌∙◌, ◌≡◌, Some}
use Rattle.std.specs.Prelude.{map, slice_get}
use Rattle.cta_model.specs.declared.reports.StageFileInfo.{StageFileInfo}
use Rattle.cta_model.specs.Stages.{StageRequest}
use Rattle.stage_book.specs.FileRows.{file_of, files_in}
use Rattle.stage_book.specs.Reports.{file_told}
use Rattle.stage_book.proofs.Lists.{if_ok, slice_map}
use Rattle.stage_book.proofs.row.RequestRow.file_info.Goals as goal

pub returns : goal.returns
returns c =
    let found = slice_map file_of c.self.inside.rows.entries c.args.at (c.entry_at.result.0.now, c.entry_at.result.1.now) c.entry_at.ensures in
    if_ok c.tell.result (λ info. info ≡ file_told (file_of (c.entry_at.result.0.now, c.entry_at.result.1.now))) (λ info. slice_get (map file_told c.args.self.now.files) c.args.at ≡ Some info)
    (λ info e. (ap (λ (r : StageRequest). slice_get (map file_told r.files) c.args.at) (sym c.self.view_is)
    ∙ slice_map file_told (files_in c.self.inside.rows.entries) c.args.at (file_of (c.entry_at.result.0.now, c.entry_at.result.1.now)) found ∙ ap (λ (i : StageFileInfo). Some i) (sym e)))
    c.tell.ensures
