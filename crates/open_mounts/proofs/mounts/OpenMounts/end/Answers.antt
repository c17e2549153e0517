use Rattle.std.proofs.Common.{rules}
use Rattle.open_mounts.proofs.RowCalls.{differ-ended}
use Rattle.open_mounts.proofs.mounts.OpenMounts.end.Goals as goal

pub invariant_of-self : goal.invariant_of-self
invariant_of-self c = search (rules, differ-ended)
