use Rattle.media.proofs.Listed.{uncut_flushed}
use Rattle.media.proofs.mem_drive.MemDriveTapeDrive.flush.Goals as goal

pub returns-else-is_ok-clause-records : goal.returns-else-is_ok-clause-records
returns-else-is_ok-clause-records c = uncut_flushed _ _ c.call-answer.result (cc)
