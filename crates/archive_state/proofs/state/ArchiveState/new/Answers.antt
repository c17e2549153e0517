use Rattle.archive_state.proofs.Begins.{ok_holds, state_begins}
use Rattle.archive_state.proofs.state.ArchiveState.new.Goals as goal

pub invariant_of-result : goal.invariant_of-result
invariant_of-result g c = rw (ok_holds _ c.in_ok-site.ensures.0 c.new-site.ensures, c.new.ensures) (state_begins g.M.Told.told c.args.site _ c.args.media.items _ c.requires (ok_holds _ c.in_ok-site.ensures.2 c.new-parts.ensures) (ok_holds _ c.in_ok-site.ensures.1 c.new-shelf.ensures))
