use Rattle.std.proofs.Common.{◌∙◌, arith, refl}
use Rattle.part_model.specs.JobRows.{book_in}
use Rattle.part_model.specs.Queues.{lines_in}
use Rattle.fault_asks.specs.Reading.{source_in}
use Rattle.tape_asks.proofs.LeftReads.{left_more, none_leave, stands_at}
use Rattle.tape_asks.proofs.leaving.leave_reads.Goals as goal

pub loop-job-init : goal.loop-job-init
loop-job-init c = record { lines = none_leave (lines_in c.args.recalls.now.value); keys = refl; room = omega arith }

pub leave_one-requires-clause-stands : goal.leave_one-requires-clause-stands
leave_one-requires-clause-stands c =
    stands_at (source_in c.args.tapes.now.value (book_in c.args.book.now.value)) (lines_in c.args.recalls.now.value) (lines_in c.loop-job.recalls.value) c.args.jobs.now c.loop-job.job-index _ c.loop-job-test.true c.requires.stand c.loop-job.invariant.lines

pub loop-job-preserved : goal.loop-job-preserved
loop-job-preserved c = record {
  lines = λ k. left_more c.args.jobs.now c.loop-job.job-index _ (lines_in c.args.recalls.now.value) (lines_in c.loop-job.recalls.value) (lines_in c.leave_one.new.recalls.value) k c.loop-job-test.true (c.loop-job.invariant.lines k) (c.leave_one.ensures.lines k);
  keys = c.leave_one.ensures.keys ∙ c.loop-job.invariant.keys;
  room = (let was = c.loop-job.invariant.room in let more = c.leave_one.ensures.room in omega arith);
}
