use Rattle.std.proofs.Common.{rules, ◌≡◌, ◌+◌, ◌∙◌, List, ℕ, length, drop, arith, ap, sym}
use Rattle.record_fields.specs.Lists.{each_before}
use Rattle.record_fields.proofs.Each.{all_more, each_more, ahead}
use Rattle.record_fields.proofs.lists.take_each.Goals as goal

pub returns-in_err-item-clause-again : goal.returns-in_err-item-clause-again
returns-in_err-item-clause-again g c vs rest all count bytes =
    let next = ahead g.F.Field.fits vs c.loop.counter (omega (arith, c.loop-test.true, count)) all in
    let here = c.loop.invariant.ahead vs rest all count bytes ∙ ap (λ xs. each_before g.F.Field.before xs rest) next.2 in
    let taken = c.in_err-item.ensures.again next.0 (each_before g.F.Field.before (drop (c.loop.counter + 1) vs) rest) next.1 here in
    search (rules, taken)

pub loop-preserved : goal.loop-preserved
loop-preserved g c = record {
  count = grind (arith, c.loop.invariant.count);
  fits = rw c.in_ok-push.ensures.items (all_more g.F.Field.fits c.loop.items.items c.in_ok-item.item c.loop.invariant.fits c.in_ok-item.ensures.right.0);
  bytes = rw c.in_ok-push.ensures.items
      (c.loop.invariant.bytes
      ∙ ap (λ xs. each_before g.F.Field.before c.loop.items.items xs) c.in_ok-item.ensures.right.1
      ∙ sym (each_more g.F.Field.before c.loop.items.items c.in_ok-item.item c.in_ok-item.after.now));
  ahead = λ vs rest all count bytes.
      let next = ahead g.F.Field.fits vs c.loop.counter (omega (arith, c.loop-test.true, count)) all in
      let here = c.loop.invariant.ahead vs rest all count bytes ∙ ap (λ xs. each_before g.F.Field.before xs rest) next.2 in
      c.in_ok-item.ensures.again next.0 (each_before g.F.Field.before (drop (c.loop.counter + 1) vs) rest) next.1 here;
}
