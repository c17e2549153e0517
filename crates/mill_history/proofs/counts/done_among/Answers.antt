use Rattle.std.specs.Prelude.{length, filter, zip}
use Rattle.std.proofs.Common.{arith}
use Rattle.mill_history.specs.Counts.{is_done_of}
use Rattle.mill_history.proofs.Done.{done_all}
use Rattle.mill_history.proofs.counts.done_among.Goals as goal

pub returns-then-at-fates-clause-count : goal.returns-then-at-fates-clause-count
returns-then-at-fates-clause-count c files marks =
    done_all files c.args.items.now c.args.fates.now c.loop-at.at c.loop-at.count (length (filter (is_done_of files) (zip c.args.items.now c.args.fates.now))) (omega (arith, c.if-at-fates.true)) (c.loop-at.invariant.0 files marks)
