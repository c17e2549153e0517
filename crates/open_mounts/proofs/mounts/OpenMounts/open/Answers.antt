use Rattle.std.proofs.Common.{rules}
use Rattle.open_mounts.proofs.RowCalls.{differ-opened}
use Rattle.open_mounts.proofs.mounts.OpenMounts.open.Goals as goal

pub invariant_of-self : goal.invariant_of-self
invariant_of-self c = search (rules, differ-opened)
