use Rattle.std.proofs.Common.{rules, ◌≡◌, Some, None}
use Rattle.std.specs.Prelude.{slice_get}
use Rattle.std.specs.Map.{values_of}
use Rattle.stage_book.specs.FileRows.{ended_at}
use Rattle.stage_book.proofs.Turns.{nothing_turns, written_turns}
use Rattle.stage_book.proofs.row.finish_at.Goals as goal

pub returns-in-Some : goal.returns-in-Some
returns-in-Some c =
    let here : slice_get (values_of c.args.rows.now.entries) c.args.place ≡ Some c.in-Some.row.now = search rules in
    written_turns (ended_at c.args.at c.args.end) c.args.rows.now.entries c.args.place c.in-Some.row.now c.finish.new.self here c.finish.ensures

pub returns-in_default : goal.returns-in_default
returns-in_default c =
    let none : slice_get (values_of c.args.rows.now.entries) c.args.place ≡ None = search rules in
    nothing_turns (ended_at c.args.at c.args.end) c.args.rows.now.entries c.args.place none
