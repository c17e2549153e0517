use Rattle.std.proofs.Common.{◌∙◌, rules, ap}
use Rattle.part_model.specs.Room.{Roomed}
use Rattle.part_model.specs.Tapes.{Table, reclaimed_row, live_in}
use Rattle.tape_table.proofs.Looks.{has_turned, filed_reclaimed}
use Rattle.tape_table.proofs.table.TapeTable.reclaim.Goals as goal

pub invariant_of-self : goal.invariant_of-self
invariant_of-self c = filed_reclaimed c.self.inside.rows.items c.set_row.new.rows.items c.self.inside.index c.args.tape _ c.self.invariant c.set_row.ensures.len c.set_row.ensures.rows (ap (λ (v : Roomed Table). live_in v.value c.args.tape) c.self.view_is ∙ c.requires.empty)

pub returns-clause-table : goal.returns-clause-table
returns-clause-table c =
    has_turned c.self.inside.rows.items c.set_row.new.rows.items c.self.inside.index.places c.args.self.now.value c.args.tape _ reclaimed_row (ap (λ (v : Roomed Table). v.value) c.self.view_is) c.self.invariant.distinct c.set_row.ensures.rows (search rules)
