use Rattle.std.proofs.Common.{rules, Bor}
use Rattle.std.specs.Prelude.{◌==◌}
use Rattle.part_model.specs.declared.mounts.OpenMount.{OpenMount}
use Rattle.open_mounts.proofs.RowCalls.{some_found}
use Rattle.open_mounts.proofs.mounts.OpenMounts.find.Goals as goal

pub returns-clause-there : goal.returns-clause-there
returns-clause-there c = some_found (λ (b : Bor OpenMount). b.now) c.row_of.result (λ (r : OpenMount). r.number == c.args.mount) c.args.self.now.value.rows (search rules)
