use Rattle.std.proofs.Common.{◌∙◌, ap}
use Rattle.part_model.specs.Requests.{Requests}
use Rattle.std.proofs.Common.{None}
use Rattle.std.specs.Prelude.{if◌then◌else◌, ◌==◌}
use Rattle.stage_book.proofs.Requests.{found_in, remove_tells}
use Rattle.stage_book.proofs.book.StageBook.remove.Goals as goal

pub returns : goal.returns
returns c = remove_tells c.args.self.now c.remove.new.self.entries c.args.id (λ q. (c.remove.ensures.updates.0 q ∙ ap (λ (v : Requests). if c.args.id == q then None else found_in v q) c.self.view_is))
