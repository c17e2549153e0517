use Rattle.std.proofs.Common.{refl}
use Rattle.media.specs.Memory.{mem_drive}
use Rattle.media.proofs.Listed.{option_read}
use Rattle.media.proofs.mem_drive.MemDriveTapeDrive.read.Goals as goal

pub returns-clause-bytes : goal.returns-clause-bytes
returns-clause-bytes c = option_read (mem_drive c.args.self.now) c.args.self.now.plan.items c.args.self.now.made _ _ c.read.result c.alters-alter.result c.in-Ok.blob refl refl refl c.in-Ok.is c.alters-alter.ensures c.read.ensures
