use Rattle.std.proofs.Common.{sym}
use Rattle.part_moves.proofs.MountRows.{mount_found}
use Rattle.part_moves.proofs.mounted.mount_at.Goals as goal

pub returns : goal.returns
returns c = λ site h are. mount_found site h c.args.mounts.now.value.rows c.args.mount c.in-Some.row.now are c.requires (sym c.in-Some.ensures.row)
