use Rattle.std.proofs.Common.{ap, length}
use Rattle.fault_asks.proofs.RetryFacts.{copies_kept}
use Rattle.archive_state.proofs.FailedTold.{count_now}
use Rattle.archive_state.proofs.state.ArchiveState.retried_count.Goals as goal

pub retried_jobs-requires : goal.retried_jobs-requires
retried_jobs-requires g c = copies_kept c.self.inside.site c.self.inside.history.value c.self.inside.parts c.self.invariant.parts

pub returns-clause-count : goal.returns-clause-count
returns-clause-count g c =
    rw (← c.self.view_is)
    (count_now c.self.inside.site c.self.inside.history.value c.self.inside.parts c.next_number-number.result (length c.as_slice.result.now) c.args.paths.now c.in_ok-jobs.jobs.items c.parts_tell_operators.ensures c.self.invariant.legal c.self.invariant.parts
    (rw (← c.self.view_is) at c.requires) c.next_number-number.ensures.number c.in_ok-jobs.ensures (ap length c.as_slice.ensures.value))
