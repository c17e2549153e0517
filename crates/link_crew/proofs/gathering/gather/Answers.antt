use Rattle.std.proofs.Common.{List, arith, subst, sym}
use Rattle.crossbeam_queue.specs.Passes.{view as pool_view}
use Rattle.link_pool.specs.declared.views.PoolView.{PoolView}
use Rattle.link_pool.specs.Entries.{links_of}
use Rattle.turn_hall.specs.declared.view.Made.{Made}
use Rattle.turn_hall.specs.Calls.{merged}
use Rattle.turn_hall.specs.Handles.{view}
use Rattle.link_crew.specs.Accounts.{Accounted}
use Rattle.link_crew.proofs.Accounts.{both}
use Rattle.link_crew.proofs.gathering.gather.Goals as goal

pub returns-clause-accounted : goal.returns-clause-accounted
returns-clause-accounted g c =
    λ limit needs mine others.
    let ms = (view c.args.pass.now).mine in
    let ns = (view c.args.worker.pass).mine in
    let joined = both g.F.Front.question g.F.Callers.is_callers g.L.Link.left g.L.Link.firm limit needs ms ns (pool_view c.args.seat.now).got (pool_view c.args.worker.seat).got c.args.unserved c.args.worker.unserved c.saturating_add.result
    mine others (λ z. (omega (arith, z, c.saturating_add.ensures), omega (arith, z, c.saturating_add.ensures))) in
    subst (λ (l : List (Made g.row.T-Call.Denot g.row.T-Back.Denot)). Accounted g.F.Front.question g.F.Callers.is_callers g.L.Link.left g.L.Link.firm limit needs l (links_of (pool_view c.join-2.new.pass).got) c.saturating_add.result) (sym c.join.ensures.calls)
    (subst (λ (v : PoolView g.row.L.Denot). Accounted g.F.Front.question g.F.Callers.is_callers g.L.Link.left g.L.Link.firm limit needs (merged ms ns) (links_of v.got) c.saturating_add.result) (sym c.join-2.ensures.joined) joined)
