use Rattle.turn_hall.specs.Handles.{first_of}
use Rattle.mill.proofs.Drives.{drives_are_new}
use Rattle.mill.proofs.hall.mill_hall.Goals as goal

pub run_phases-ended-requires-clause-drives : goal.run_phases-ended-requires-clause-drives
run_phases-ended-requires-clause-drives g c κs within = drives_are_new g.D.TapeDrive.seen c.requires.drives.0 (first_of c.args.hall).site c.args.drives.items c.requires.site c.requires.drives.1
