use Rattle.std.proofs.Common.{rules, ◌∙◌, ◌≡◌, sym, ap, Some, None}
use Rattle.std.specs.Prelude.{Option, option_map}
use Rattle.cta_model.specs.Pins.{stage_pins}
use Rattle.cta_model.specs.Stages.{StageRequest}
use Rattle.part_model.specs.Held.{kept_end}
use Rattle.part_model.specs.Requests.{first_end}
use Rattle.stage_book.proofs.Requests.{found_in, request_is}
use Rattle.stage_book.proofs.book.StageBook.pin_end.Goals as goal

pub returns-in-Some : goal.returns-in-Some
returns-in-Some c =
    let here : found_in c.args.self.now c.args.id ≡ Some c.in-Some.row.now = search rules in
    c.pin_end.ensures c.args.id ∙ sym (ap (λ (o : Option StageRequest). option_map kept_end (first_end (stage_pins c.args.file c.args.id o))) (request_is c.args.self.now c.args.id ∙ here))

pub returns-in-None : goal.returns-in-None
returns-in-None c =
    let here : found_in c.args.self.now c.args.id ≡ None = search rules in
    sym (ap (λ (o : Option StageRequest). option_map kept_end (first_end (stage_pins c.args.file c.args.id o))) (request_is c.args.self.now c.args.id ∙ here))
