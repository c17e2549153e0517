use Rattle.std.proofs.Common.{◌≡◌, ◌∙◌, ap, arith}
use Rattle.std.specs.Prelude.{Some}
use Rattle.crossbeam_queue.specs.Passes.{view}
use Rattle.link_pool.specs.declared.views.PoolView.{PoolView}
use Rattle.link_pool.specs.Pooled.{with_put}
use Rattle.outside.specs.Listening.{GivesLink}
use Rattle.link_crew.proofs.Doors.{one_put}
use Rattle.link_crew.proofs.accepting.accept_all.Goals as goal

pub loop-preserved : goal.loop-preserved
loop-preserved g c =
    let i = c.loop.invariant in
    let o = c.offer.ensures in
    let n = c.in-Ok-Some.ensures in
    let p : view c.offer.new.pass ≡ with_put (view c.loop.door) c.in-Ok-Some.link = rw c.in_default.is at o.put in
    let gives : GivesLink (g.L.Listener.left c.loop.listener) (g.L.Listener.left c.next-in-loop.new.self) (Some c.in-Ok-Some.link) = rw c.in-Ok-Some.field-0-is at n.links in
    record {
      can = tt;
      ends = tt;
      here = o.here;
      door = ap (λ (z : PoolView g.row.K.Denot). z.door) p ∙ i.door;
      same = record { door = ap (λ (z : PoolView g.row.K.Denot). z.door) p ∙ i.same.door; parts = ap (λ (z : PoolView g.row.K.Denot). z.parts) p ∙ i.same.parts; got = ap (λ (z : PoolView g.row.K.Denot). z.got) p ∙ i.same.got };
      here_full = i.here_full;
      door_full = i.door_full;
      same_full = i.same_full;
      faults = omega (arith, i.faults, n.cause.later);
      put = λ links e. one_put c.args.pool.now.queue.cap links (g.L.Listener.left c.loop.listener) (g.L.Listener.left c.next-in-loop.new.self) (view c.args.door.now) (view c.loop.door) (view c.offer.new.pass) c.in-Ok-Some.link (i.put links e) gives p;
    }
