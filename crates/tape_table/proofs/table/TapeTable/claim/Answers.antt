use Rattle.std.proofs.Common.{rules, ap}
use Rattle.part_model.specs.Room.{Roomed}
use Rattle.part_model.specs.Tapes.{Table, claimed_row}
use Rattle.tape_table.proofs.Looks.{has_turned, filed_turned}
use Rattle.tape_table.proofs.table.TapeTable.claim.Goals as goal

pub invariant_of-self : goal.invariant_of-self
invariant_of-self c = filed_turned c.self.inside.rows.items c.set_row.new.rows.items c.self.inside.index c.args.tape _ c.self.invariant c.set_row.ensures.len c.set_row.ensures.rows (search rules)

pub returns-clause-table : goal.returns-clause-table
returns-clause-table c =
    has_turned c.self.inside.rows.items c.set_row.new.rows.items c.self.inside.index.places c.args.self.now.value c.args.tape _ (claimed_row c.args.bytes) (ap (λ (v : Roomed Table). v.value) c.self.view_is) c.self.invariant.distinct c.set_row.ensures.rows (search rules)
