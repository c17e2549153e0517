use Rattle.std.proofs.Common.{ap}
use Rattle.part_model.specs.Room.{Roomed}
use Rattle.open_mounts.specs.Table.{MountTable}
use Rattle.open_mounts.proofs.Downs.{lowered}
use Rattle.open_mounts.proofs.mounts.OpenMounts.set_up.Goals as goal

pub returns-clause-downs : goal.returns-clause-downs
returns-clause-downs c = lowered c.args.drive c.self.inside.flags.items c.lower.new.flags.items c.args.self.now.value.downs (ap (λ (v : Roomed MountTable). v.value.downs) c.self.view_is) c.lower.ensures.flags
