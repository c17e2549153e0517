use Rattle.std.proofs.Common.{◌∙◌, sym, ap}
use Rattle.std.specs.Prelude.{is_some}
use Rattle.archive_state.proofs.Recalled.{job_none, job_there}
use Rattle.archive_state.proofs.state.ArchiveState.knows_job.Goals as goal

pub returns-in-Some : goal.returns-in-Some
returns-in-Some g c =
    rw (← c.self.view_is) (c.claims.ensures ∙ job_there _ _ c.self.inside.parts c.args.mount c.args.job c.self.invariant.legal c.self.invariant.parts (sym c.find.ensures.there ∙ ap is_some c.in-Some.is))

pub returns-in-None : goal.returns-in-None
returns-in-None g c = rw (← c.self.view_is) (job_none _ _ c.self.inside.parts c.args.mount c.args.job c.self.invariant.parts (sym c.find.ensures.there ∙ ap is_some c.in-None.is))
