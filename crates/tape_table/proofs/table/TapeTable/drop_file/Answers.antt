use Rattle.std.proofs.Common.{ap}
use Rattle.part_model.specs.Room.{Roomed}
use Rattle.part_model.specs.Tapes.{Table}
use Rattle.tape_table.proofs.Looks.{has_dropped, filed_dropped}
use Rattle.tape_table.proofs.table.TapeTable.drop_file.Goals as goal

pub invariant_of-self : goal.invariant_of-self
invariant_of-self c = filed_dropped c.self.inside.rows.items c.self.inside.index c.forget_file.new.self c.args.file c.self.invariant c.forget_file.ensures.tapes c.forget_file.ensures.distinct c.forget_file.ensures.places

pub returns-clause-table : goal.returns-clause-table
returns-clause-table c = has_dropped c.self.inside.rows.items c.self.inside.index.places c.forget_file.new.self.places c.args.self.now.value c.args.file (ap (λ (v : Roomed Table). v.value) c.self.view_is) c.forget_file.ensures.distinct c.self.invariant.few c.forget_file.ensures.places
