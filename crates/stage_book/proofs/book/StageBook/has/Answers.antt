use Rattle.std.proofs.Common.{rules, ◌∙◌, ◌≡◌, sym, ap, Some, None}
use Rattle.part_model.specs.Requests.{has_path_by}
use Rattle.stage_book.proofs.Requests.{found_in, request_is}
use Rattle.stage_book.proofs.book.StageBook.has.Goals as goal

pub returns-in-Some : goal.returns-in-Some
returns-in-Some c =
    let here : found_in c.args.self.now c.args.id ≡ Some c.in-Some.row.now = search rules in
    c.has.ensures ∙ sym (ap (has_path_by c.args.path.now) (request_is c.args.self.now c.args.id ∙ here))

pub returns-in-None : goal.returns-in-None
returns-in-None c =
    let here : found_in c.args.self.now c.args.id ≡ None = search rules in
    sym (ap (has_path_by c.args.path.now) (request_is c.args.self.now c.args.id ∙ here))
