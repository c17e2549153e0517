use Rattle.archive_state.proofs.Now.{space_beyond, space_free}
use Rattle.archive_state.proofs.state.ArchiveState.has_space.Goals as goal

pub returns-then-size-free : goal.returns-then-size-free
returns-then-size-free g c = rw (← c.self.view_is) (space_free _ _ c.self.inside.parts c.args.at c.args.size _ c.self.invariant.legal c.self.invariant.parts c.requires c.free-free.ensures c.if-size-free.true)

pub returns : goal.returns
returns g c = rw (← c.self.view_is) (space_beyond _ _ c.self.inside.parts c.args.at _ c.args.size _ _ c.self.invariant.legal c.self.invariant.parts c.requires c.free-free.ensures c.moment_of-now.ensures c.evictable.ensures c.if-size-free.false)
