use Rattle.std.proofs.Common.{rules}
use Rattle.open_mounts.proofs.Downs.{has_number-places_from}
use Rattle.open_mounts.proofs.mounts.OpenMounts.is_down.Goals as goal

pub returns : goal.returns
returns c = search (rules, has_number-places_from)
