use Rattle.std.proofs.Common.{rules, ap, sym, ◌∙◌, ◌≡◌, Some, None}
use Rattle.std.specs.Prelude.{option_map}
use Rattle.cta_model.specs.declared.reports.StageInfo.{StageInfo}
use Rattle.stage_book.specs.Reports.{request_told}
use Rattle.stage_book.proofs.Requests.{found_in, request_is}
use Rattle.stage_book.proofs.book.StageBook.info.Goals as goal

pub returns-in_ok-info-in-Some : goal.returns-in_ok-info-in-Some
returns-in_ok-info-in-Some c =
    let here : found_in c.args.self.now c.args.id ≡ Some c.in-Some.row.now = search rules in
    ap (λ (i : StageInfo). Some i) c.in_ok-info-in-Some.ensures ∙ sym (ap (option_map (request_told c.args.id)) (request_is c.args.self.now c.args.id ∙ here))

pub returns-in-None : goal.returns-in-None
returns-in-None c =
    let here : found_in c.args.self.now c.args.id ≡ None = search rules in
    sym (ap (option_map (request_told c.args.id)) (request_is c.args.self.now c.args.id ∙ here))
