use Rattle.std.proofs.Common.{rules, ap, subst, sym, ◌∙◌, ◌≡◌, ◌<◌, Some, None, arith}
use Rattle.std.specs.Prelude.{Option, slice_get}
use Rattle.cta_model.specs.Stages.{StageRequest}
use Rattle.stage_book.specs.Reports.{files_of, path_of}
use Rattle.stage_book.specs.Requested.{count_of}
use Rattle.stage_book.proofs.Requests.{found_in, request_is}
use Rattle.stage_book.proofs.book.StageBook.path.Goals as goal

pub path-requires : goal.path-requires
path-requires c =
    let here : found_in c.args.self.now c.args.id ≡ Some c.in-Some.row.now = search rules in
    subst (λ (o : Option StageRequest). c.args.at < count_of o) (request_is c.args.self.now c.args.id ∙ here) c.requires

pub unreachable-requires : goal.unreachable-requires
unreachable-requires c =
    let here : found_in c.args.self.now c.args.id ≡ None = search rules in
    let low : c.args.at < 0 = subst (λ (o : Option StageRequest). c.args.at < count_of o) (request_is c.args.self.now c.args.id ∙ here) c.requires in
    omega arith

pub returns : goal.returns
returns c =
    let here : found_in c.args.self.now c.args.id ≡ Some c.in-Some.row.now = search rules in
    c.path.ensures ∙ sym (ap (λ (o : Option StageRequest). path_of (slice_get (files_of o) c.args.at)) (request_is c.args.self.now c.args.id ∙ here))
