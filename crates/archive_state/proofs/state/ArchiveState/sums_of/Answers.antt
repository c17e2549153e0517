use Rattle.archive_state.proofs.Reported.{pool_sums, recall_sums}
use Rattle.archive_state.proofs.state.ArchiveState.sums_of.Goals as goal

pub returns-in-Archive : goal.returns-in-Archive
returns-in-Archive g c = rw (← c.self.view_is) (pool_sums _ _ c.self.inside.parts c.args.direction c.args.key c.sums.result c.self.invariant.parts c.in-Archive.is c.sums.ensures)

pub returns-in-Retrieve : goal.returns-in-Retrieve
returns-in-Retrieve g c = rw (← c.self.view_is) (recall_sums _ _ c.self.inside.parts c.args.direction c.args.key c.sums-in-Retrieve.result c.self.invariant.parts c.in-Retrieve.is c.sums-in-Retrieve.ensures)
