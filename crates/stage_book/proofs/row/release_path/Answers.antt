use Rattle.std.proofs.Common.{◌∙◌, ap}
use Rattle.stage_book.specs.FileRows.{released_in}
use Rattle.stage_book.proofs.Paths.{no_text, none_released}
use Rattle.stage_book.proofs.row.release_path.Goals as goal

pub returns-in-Ok : goal.returns-in-Ok
returns-in-Ok c = c.release_text.ensures ∙ ap (λ p. released_in p c.args.rows.now.entries) c.in-Ok.ensures.cases.0

pub returns-in-Err : goal.returns-in-Err
returns-in-Err c = none_released c.args.path.now c.args.rows.now.entries (no_text c.args.path.now c.args.rows.now.entries c.in-Err.ensures.cases.0)
