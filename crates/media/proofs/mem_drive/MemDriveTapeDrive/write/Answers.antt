use Rattle.media.proofs.Listed.{uncut_written}
use Rattle.media.proofs.mem_drive.MemDriveTapeDrive.write.Goals as goal

pub returns-then-fails-clause-records : goal.returns-then-fails-clause-records
returns-then-fails-clause-records c = uncut_written _ _ _ _ _ c.requires.place.1 (cc)
