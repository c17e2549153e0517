use Rattle.std.proofs.Common.{subst}
use Rattle.tape_asks.proofs.ItemWalks.{IsPassed, walk_begins, walk_ends, walk_steps}
use Rattle.tape_asks.proofs.items.items_on.Goals as goal

pub loop-next-init : goal.loop-next-init
loop-next-init c = walk_begins c.args.tapes.now.value c.args.tape c.new-items.result.items c.next_live-next.result c.new-items.ensures.items c.next_live-next.ensures

pub loop-next-preserved : goal.loop-next-preserved
loop-next-preserved c =
    walk_steps c.args.tapes.now.value c.args.tape c.loop-next.items.items c.push.new.self.items c.in-Some.found c.item_of.result c.next_live-next-in-Some.result
    (subst (λ o. IsPassed c.args.tapes.now.value c.args.tape c.loop-next.items.items o) c.in-Some.is c.loop-next.invariant) c.in_ok-push.ensures.items c.item_of.ensures c.next_live-next-in-Some.ensures

pub returns : goal.returns
returns c =
    walk_ends c.args.tapes.now.value c.args.tape c.loop-next.items.items c.walks_pass_all.ensures
    (subst (λ o. IsPassed c.args.tapes.now.value c.args.tape c.loop-next.items.items o) c.in_default.is c.loop-next.invariant)
