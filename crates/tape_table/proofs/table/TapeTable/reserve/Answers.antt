use Rattle.std.proofs.Common.{ap}
use Rattle.part_model.specs.Room.{Roomed}
use Rattle.part_model.specs.Tapes.{Table}
use Rattle.tape_table.proofs.Looks.{tables_agree}
use Rattle.tape_table.proofs.table.TapeTable.reserve.Goals as goal

pub returns-clause-table : goal.returns-clause-table
returns-clause-table c = tables_agree c.self.inside.rows.items c.self.inside.index.places c.reserve.new.self.places c.args.self.now.value (ap (λ (v : Roomed Table). v.value) c.self.view_is) c.self.invariant.distinct c.reserve.ensures.places
