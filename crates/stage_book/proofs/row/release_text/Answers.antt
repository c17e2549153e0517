use Rattle.std.proofs.Common.{rules, ◌∙◌, ◌≡◌, ap, Some, None, true}
use Rattle.std.specs.Map.{lookup}
use Rattle.stage_book.specs.FileRows.{has_bytes}
use Rattle.stage_book.proofs.Paths.{none_released, write_releases}
use Rattle.stage_book.proofs.row.release_text.Goals as goal

pub returns-in-Some : goal.returns-in-Some
returns-in-Some c =
    let here : lookup (has_bytes c.args.path.now) c.args.rows.now.entries ≡ Some c.in-Some.row.now = search rules in
    (c.get_mut.follows.holds (record c.in-Some.row.now { released = true })).0 ∙ write_releases c.args.path.now c.args.rows.now.entries c.in-Some.row.now c.get_mut.ensures.unique here

pub returns-in_default : goal.returns-in_default
returns-in_default c =
    let none : lookup (has_bytes c.args.path.now) c.args.rows.now.entries ≡ None = search rules in
    ap (λ m. m.entries) c.get_mut.follows.holds-at-none ∙ none_released c.args.path.now c.args.rows.now.entries none
