use Rattle.std.proofs.Common.{◌∙◌}
use Rattle.archive_state.proofs.ItemJobs.{first_inside, nothing_before, sorted_is}
use Rattle.archive_state.proofs.state.ArchiveState.claimed_jobs.Goals as goal

pub claimed_behind-requires-clause-few : goal.claimed_behind-requires-clause-few
claimed_behind-requires-clause-few g c = first_inside c.self.inside.history.value c.entries.result.now c.args.mount c.saturating_sub-first.result (rw (← c.self.view_is) at c.requires) c.entries.ensures.history c.saturating_sub-first.ensures

pub claimed_behind-requires-clause-begins : goal.claimed_behind-requires-clause-begins
claimed_behind-requires-clause-begins g c =
    nothing_before c.self.inside.site c.self.inside.history.value c.entries.result.now c.args.mount c.saturating_sub-first.result c.self.invariant.legal (rw (← c.self.view_is) at c.requires) c.entries.ensures.history c.saturating_sub-first.ensures

pub returns : goal.returns
returns g c =
    rw (← c.self.view_is)
    (c.of.ensures.items
    ∙ sorted_is c.self.inside.site c.self.inside.history.value c.entries.result.now c.args.mount c.in_ok-claimed.claimed.items c.as_slice.result.now c.in_ok-sorted.sorted.items c.self.invariant.legal c.entries.ensures.history c.in_ok-claimed.ensures c.as_slice.ensures.value
    c.in_ok-sorted.ensures)
