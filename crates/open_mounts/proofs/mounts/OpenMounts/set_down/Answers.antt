use Rattle.std.proofs.Common.{ap}
use Rattle.part_model.specs.Room.{Roomed}
use Rattle.open_mounts.specs.Table.{MountTable}
use Rattle.open_mounts.proofs.Downs.{raised}
use Rattle.open_mounts.proofs.mounts.OpenMounts.set_down.Goals as goal

pub returns-clause-downs : goal.returns-clause-downs
returns-clause-downs c = raised c.args.drive c.self.inside.flags.items c.raise.new.flags.items c.args.self.now.value.downs (ap (λ (v : Roomed MountTable). v.value.downs) c.self.view_is) c.raise.ensures.flags
