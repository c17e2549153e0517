use Rattle.drive_server.proofs.Fronting.{asks_are_answered, mounts_are_own, topics_are_mounts}
use Rattle.drive_server.proofs.front.ArchiveDrivesDriveFrontArchive.front_laws.Goals as goal

pub returns-clause-apart : goal.returns-clause-apart
returns-clause-apart g c = topics_are_mounts

pub returns-clause-answered : goal.returns-clause-answered
returns-clause-answered g c = asks_are_answered g.M.Told.told

pub returns-clause-own : goal.returns-clause-own
returns-clause-own g c = mounts_are_own g.M.Told.told c.own_mount_stays.ensures.next
