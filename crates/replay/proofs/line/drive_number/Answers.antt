use Rattle.replay.proofs.Drives.{drive_found}
use Rattle.replay.proofs.line.drive_number.Goals as goal

pub returns : goal.returns
returns c = drive_found c.args.site.now c.args.name.now c.drive_of.result c.drive_of.ensures
