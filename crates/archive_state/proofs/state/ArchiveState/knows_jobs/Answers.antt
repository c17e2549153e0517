use Rattle.std.proofs.Common.{◌∙◌, ◌++◌, sym, ap}
use Rattle.std.specs.Prelude.{is_some}
use Rattle.archive_state.proofs.KnownJobs.{jobs_none, jobs_there}
use Rattle.archive_state.proofs.state.ArchiveState.knows_jobs.Goals as goal

pub returns-in-Some : goal.returns-in-Some
returns-in-Some g c =
    rw (← c.self.view_is)
    (c.claims_once.ensures
    ∙ jobs_there _ _ c.self.inside.parts c.args.mount (c.args.charged.now ++ c.args.returned.now) c.self.invariant.legal c.self.invariant.parts (sym c.find.ensures.there ∙ ap is_some c.in-Some.is))

pub returns-in-None : goal.returns-in-None
returns-in-None g c =
    rw (← c.self.view_is) (jobs_none _ _ c.self.inside.parts c.args.mount (c.args.charged.now ++ c.args.returned.now) c.self.invariant.parts (sym c.find.ensures.there ∙ ap is_some c.in-None.is))
