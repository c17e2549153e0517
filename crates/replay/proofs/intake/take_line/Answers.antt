use Rattle.std.proofs.Common.{◌≡◌, ◌∷◌, ◌++◌, [], take, arith, length-append, length-take}
use Rattle.cta_site.specs.Bytes.{Without}
use Rattle.replay.proofs.Parts.{Without-append}
use Rattle.replay.proofs.Taking.{Took-trans}
use Rattle.replay.proofs.intake.take_line.Goals as goal

pub returns-in-Ok-eq10-take_byte-clause-took : goal.returns-in-Ok-eq10-take_byte-clause-took
returns-in-Ok-eq10-take_byte-clause-took g c =
    let all : c.loop-n.n ≡ 256 = omega arith in
    let took = rw all at c.loop-n.invariant.took in
    let plain = rw all at c.loop-n.invariant.plain in
    (Took-trans took (rw c.in-Ok-eq10-take_byte.field-0-test at c.in-Ok-eq10-take_byte.ensures.took), plain, omega arith)

pub returns-in-Ok-take_byte-clause-took : goal.returns-in-Ok-take_byte-clause-took
returns-in-Ok-take_byte-clause-took g c =
    let all : c.loop-n.n ≡ 256 = omega arith in
    let took = rw all at c.loop-n.invariant.took in
    let plain = rw all at c.loop-n.invariant.plain in
    let b = c.in-Ok-take_byte.field-0 in
    let more : Without 10 (b ∷ []) = (c.in-Ok-take_byte.field-0-test.1, tt) in
    (take 256 c.loop-n.line ++ b ∷ [], Took-trans took c.in-Ok-take_byte.ensures.took, Without-append 10 _ (b ∷ []) plain more, omega (arith, length-append (take 256 c.loop-n.line) (b ∷ []), length-take 256 c.loop-n.line))
