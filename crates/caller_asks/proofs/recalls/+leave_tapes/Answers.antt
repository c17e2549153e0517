use Rattle.std.proofs.Common.{◌<◌, ℕ, arith, sym, subst}
use Rattle.part_model.specs.Queues.{lines_in}
use Rattle.caller_asks.proofs.recalls.+leave_tapes.Goals as goal
use Rattle.caller_asks.proofs.Leaves.{left_on_rest, placed_nowhere, placed_on_rest, placed_past}
use Rattle.part_moves.proofs.LeftLines.{stands_nowhere}

pub returns-then-copies-eq0-clause-lines : goal.returns-then-copies-eq0-clause-lines
returns-then-copies-eq0-clause-lines t c = λ k. stands_nowhere c.args.job (lines_in c.args.recalls.now.value) k (λ there. placed_nowhere c.args.tapes.now.value c.args.job.file c.args.copies k c.if-copies-eq0.true (c.requires.stands k there))

pub leave_tapes-requires : goal.leave_tapes-requires
leave_tapes-requires t c =
    let some = c.if-copies-eq0.false in (
      omega arith,
      (
        λ d p is. subst (λ (n : ℕ). p.tape < n) (sym c.take-there.ensures.keys) (c.requires.keys d p is),
        λ k. placed_on_rest c.args.tapes.now.value c.args.job.file c.args.copies k c.in-Some.place c.args.job (lines_in c.args.recalls.now.value) (lines_in c.take-there.new.self.value) c.in-Some.ensures (c.take-there.ensures.lines k) (c.requires.stands k),
      ),
    )

pub leave_tapes-requires-2 : goal.leave_tapes-requires-2
leave_tapes-requires-2 t c =
    let some = c.if-copies-eq0.false in (
      omega arith,
      (c.requires.keys, λ k there. placed_past c.args.tapes.now.value c.args.job.file c.args.copies k c.in_default.ensures (c.requires.stands k there)),
    )

pub returns-in-Some-clause-lines : goal.returns-in-Some-clause-lines
returns-in-Some-clause-lines t c = λ k. left_on_rest c.args.job c.in-Some.place.tape k (lines_in c.args.recalls.now.value) (lines_in c.take-there.new.self.value) (lines_in c.leave_tapes.new.recalls.value) (c.take-there.ensures.lines k) (c.leave_tapes.ensures.lines k)
