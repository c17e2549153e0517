use Rattle.archive_restore.proofs.Mounted.{way_none}
use Rattle.archive_restore.proofs.fitting.way_of.Goals as goal

pub returns-in-None : goal.returns-in-None
returns-in-None c = way_none _ _ _ _ c.keeps_history.ensures c.mount.ensures c.in-None.is
