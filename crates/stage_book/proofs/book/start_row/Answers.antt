use Rattle.std.proofs.Common.{rules, ◌≡◌, ℕ, Some, None}
use Rattle.cta_model.specs.Stages.{started}
use Rattle.part_model.specs.Requests.{turned_file}
use Rattle.stage_book.proofs.Requests.{found_in, turn_none, turn_tells}
use Rattle.stage_book.proofs.book.start_row.Goals as goal

pub returns-in-Some : goal.returns-in-Some
returns-in-Some c =
    let here : found_in c.args.rows.now.entries c.args.id ≡ Some c.in-Some.row.now = search rules in
    turn_tells c.args.rows.now.entries _ c.args.id (turned_file c.args.file (λ s. started s c.args.at)) c.in-Some.row.now c.start.new.self here c.start.ensures (((c.get_mut.follows.holds c.start.new.self).3 (search rules)).0)

pub returns-in_default : goal.returns-in_default
returns-in_default c =
    let none : found_in c.args.rows.now.entries c.args.id ≡ None = search rules in
    let each : (q : ℕ) → found_in c.get_mut.follows.lender-at-none.entries q ≡ found_in c.args.rows.now.entries q = search rules in
    turn_none c.args.rows.now.entries _ c.args.id (turned_file c.args.file (λ s. started s c.args.at)) none each
