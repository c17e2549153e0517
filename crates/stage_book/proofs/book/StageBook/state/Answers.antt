use Rattle.std.proofs.Common.{rules, ap, sym, ◌∙◌, ◌≡◌, ◌≤◌, length, Some, None, arith}
use Rattle.std.specs.Prelude.{Option, slice_get}
use Rattle.cta_model.specs.Stages.{StageRequest}
use Rattle.stage_book.specs.Reports.{files_of, state_of}
use Rattle.stage_book.proofs.Requests.{found_in, request_is}
use Rattle.stage_book.proofs.Lists.{beyond}
use Rattle.stage_book.proofs.book.StageBook.state.Goals as goal

pub returns-then-at-count : goal.returns-then-at-count
returns-then-at-count c =
    let here : found_in c.args.self.now c.args.id ≡ Some c.in-Some.row.now = search rules in
    sym (ap (λ (o : Option StageRequest). state_of (slice_get (files_of o) c.args.at)) (request_is c.args.self.now c.args.id ∙ here) ∙ c.state.ensures)

pub returns-else-at-count : goal.returns-else-at-count
returns-else-at-count c =
    let here : found_in c.args.self.now c.args.id ≡ Some c.in-Some.row.now = search rules in
    let much : length c.in-Some.row.now.files ≤ c.args.at = omega arith in
    sym (ap (λ (o : Option StageRequest). state_of (slice_get (files_of o) c.args.at)) (request_is c.args.self.now c.args.id ∙ here) ∙ ap state_of (beyond c.in-Some.row.now.files c.args.at much))

pub returns-in-None : goal.returns-in-None
returns-in-None c =
    let here : found_in c.args.self.now c.args.id ≡ None = search rules in
    sym (ap (λ (o : Option StageRequest). state_of (slice_get (files_of o) c.args.at)) (request_is c.args.self.now c.args.id ∙ here))
