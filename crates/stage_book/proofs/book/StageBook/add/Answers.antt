use Rattle.std.proofs.Common.{◌∙◌, ap, Some}
use Rattle.std.specs.Prelude.{if◌then◌else◌, ◌==◌}
use Rattle.part_model.specs.Requests.{Requests}
use Rattle.stage_book.proofs.Requests.{add_tells, found_in}
use Rattle.stage_book.proofs.book.StageBook.add.Goals as goal

pub returns-clause-added : goal.returns-clause-added
returns-clause-added c =
    add_tells c.args.self.now c.insert.new.self.entries c.args.id c.args.at c.args.files.items c.in_ok-row.row c.in_ok-row.ensures
    (λ q. (c.in_ok-insert.ensures.updates.0 q ∙ ap (λ (v : Requests). if c.args.id == q then Some c.in_ok-row.row else found_in v q) c.self.view_is))
