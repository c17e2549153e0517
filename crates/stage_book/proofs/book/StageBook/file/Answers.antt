use Rattle.std.proofs.Common.{rules, ap, sym, ◌∙◌, ◌≡◌, Some, None}
use Rattle.std.specs.Prelude.{Option, slice_get}
use Rattle.cta_model.specs.Stages.{StageRequest}
use Rattle.stage_book.specs.Reports.{files_of, number_of}
use Rattle.stage_book.proofs.Requests.{found_in, request_is}
use Rattle.stage_book.proofs.book.StageBook.file.Goals as goal

pub returns-in-Some : goal.returns-in-Some
returns-in-Some c =
    let here : found_in c.args.self.now c.args.id ≡ Some c.in-Some.row.now = search rules in
    c.file.ensures ∙ sym (ap (λ (o : Option StageRequest). number_of (slice_get (files_of o) c.args.at)) (request_is c.args.self.now c.args.id ∙ here))

pub returns-in-None : goal.returns-in-None
returns-in-None c =
    let here : found_in c.args.self.now c.args.id ≡ None = search rules in
    sym (ap (λ (o : Option StageRequest). number_of (slice_get (files_of o) c.args.at)) (request_is c.args.self.now c.args.id ∙ here))
