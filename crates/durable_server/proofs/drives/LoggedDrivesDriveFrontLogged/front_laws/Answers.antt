use Rattle.drive_server.proofs.Fronting.{topics_are_mounts}
use Rattle.durable_server.proofs.Fronting.{asks_are_answered, mounts_are_own}
use Rattle.durable_server.proofs.drives.LoggedDrivesDriveFrontLogged.front_laws.Goals as goal

pub returns-clause-apart : goal.returns-clause-apart
returns-clause-apart g c = topics_are_mounts

pub returns-clause-answered : goal.returns-clause-answered
returns-clause-answered g c = asks_are_answered {K = g.row.K.Denot} g.M.Told.told

pub returns-clause-own : goal.returns-clause-own
returns-clause-own g c = mounts_are_own {K = g.row.K.Denot} g.M.Told.told c.topics_stay_opened.ensures.opens c.entries_name_their_mounts.ensures
