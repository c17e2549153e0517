use Rattle.std.proofs.Common.{arith}
use Rattle.wire_http.proofs.Digits.{steps}
use Rattle.wire_http.proofs.fields.number_at.Goals as goal

pub overflow_mul-n : goal.overflow_mul-n
overflow_mul-n c =
    let s = steps c.args.text.now c.loop-b.b-index c.loop-b-test.true c.requires in
    omega (arith, s.next, s.small, c.loop-b.invariant)

pub overflow_sub-b : goal.overflow_sub-b
overflow_sub-b c = (steps c.args.text.now c.loop-b.b-index c.loop-b-test.true c.requires).low

pub overflow_add-n : goal.overflow_add-n
overflow_add-n c =
    let s = steps c.args.text.now c.loop-b.b-index c.loop-b-test.true c.requires in
    omega (arith, s.next, s.small, c.loop-b.invariant, c.from.ensures)

pub loop-b-preserved : goal.loop-b-preserved
loop-b-preserved c =
    let s = steps c.args.text.now c.loop-b.b-index c.loop-b-test.true c.requires in
    omega (arith, s.next, c.loop-b.invariant, c.from.ensures)
