use Rattle.fault_asks.proofs.RetryFacts.{copies_kept}
use Rattle.archive_state.proofs.FailedTold.{list_now}
use Rattle.archive_state.proofs.state.ArchiveState.failed_list.Goals as goal

pub tell_copies-requires : goal.tell_copies-requires
tell_copies-requires g c = copies_kept c.self.inside.site c.self.inside.history.value c.self.inside.parts c.self.invariant.parts

pub returns : goal.returns
returns g c =
    rw (← c.self.view_is)
    (list_now c.self.inside.site c.site.result.now c.self.inside.history.value c.self.inside.parts c.tell_copies.result c.parts_tell_looks.ensures c.self.invariant.legal c.self.invariant.parts c.site.ensures c.tell_copies.ensures)
