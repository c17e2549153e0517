use Rattle.std.proofs.Common.{rules}
use Rattle.open_mounts.proofs.Downs.{places_from-replicate}
use Rattle.open_mounts.proofs.mounts.OpenMounts.new.Goals as goal

pub returns-clause-downs : goal.returns-clause-downs
returns-clause-downs c = search (rules, places_from-replicate)
