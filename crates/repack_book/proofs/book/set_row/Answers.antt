use Rattle.std.proofs.Common.{rules, ◌∙◌, ◌≡◌, Some}
use Rattle.repack_book.specs.NamedRepacks.{kept_in, set_in}
use Rattle.repack_book.proofs.Rows.{write_row}
use Rattle.repack_book.proofs.book.set_row.Goals as goal

pub returns-in-Some-clause-rows : goal.returns-in-Some-clause-rows
returns-in-Some-clause-rows c =
    let here : kept_in c.args.rows.now.entries c.args.id ≡ Some c.in-Some.row.now = search rules in
    λ q. (((c.get_mut.follows.holds c.set.new.self).3 (search rules)).0 q
    ∙ write_row c.args.rows.now.entries c.args.id q (set_in c.args.file c.args.copy c.args.state) c.in-Some.row.now c.set.new.self here c.set.ensures)
