use Rattle.std.proofs.Common.{◌≡◌, ◌∙◌, ◌++◌, ◌∷◌, [], List, length, ap, arith}
use Rattle.std.specs.Prelude.{map}
use Rattle.std.proofs.lemmas.List.{take_all}
use Rattle.cta_site.specs.Listed.{rows}
use Rattle.cta_model.specs.declared.reports.StageFileInfo.{StageFileInfo}
use Rattle.cta_model.specs.Reports.{greatest_finish, least_start}
use Rattle.cta_model.specs.Stages.{StageRequest}
use Rattle.stage_book.specs.Reports.{file_told, greatest_told, least_told}
use Rattle.stage_book.proofs.Lists.{length_map, take_one}
use Rattle.stage_book.proofs.Told.{greatest_is, least_is}
use Rattle.stage_book.proofs.row.RequestRow.info.Goals as goal

pub loop-at-preserved : goal.loop-at-preserved
loop-at-preserved c =
    c.in_ok-push.ensures.items ∙ ap (λ (xs : List StageFileInfo). xs ++ c.in_ok-info.info ∷ []) c.loop-at.invariant
    ∙ take_one (map file_told c.args.self.now.files) c.loop-at.at c.in_ok-info.info c.in_ok-info.ensures

pub returns : goal.returns
returns c =
    let many : length (map file_told c.args.self.now.files) ≡ length c.args.self.now.files = length_map file_told c.args.self.now.files in
    let files : c.loop-at.files.items ≡ map file_told c.args.self.now.files = c.loop-at.invariant ∙ take_all c.loop-at.at (map file_told c.args.self.now.files) (omega arith) in
    let at = ap (λ (r : StageRequest). r.at) c.self.view_is in
    let begun : c.least_start-started_at.result ≡ least_start c.args.self.now.files = c.least_start-started_at.ensures ∙ ap least_told (c.as_slice.ensures.value ∙ files) ∙ least_is c.args.self.now.files in
    let over : c.greatest_finish-completed_at.result ≡ greatest_finish c.args.self.now.files = c.greatest_finish-completed_at.ensures ∙ ap greatest_told (c.as_slice-2.ensures.value ∙ files) ∙ greatest_is c.args.self.now.files in
    let items : c.of.result.items ≡ map file_told c.args.self.now.files = c.of.ensures.items ∙ files in
    λ i. record { id = c.args.id; created_at = at i; started_at = begun i; completed_at = over i; files = rows (items i) }
