use Rattle.std.proofs.Common.{◌∙◌}
use Rattle.repack_book.specs.NamedRepacks.{repacks_of}
use Rattle.part_moves.proofs.Unpinning.{left_next}
use Rattle.part_moves.proofs.Writing.{ended_more}
use Rattle.part_moves.proofs.copies.end_copies.Goals as goal

pub loop-job-preserved : goal.loop-job-preserved
loop-job-preserved c = record {
  finished =
      ended_more c.args.state c.requires c.args.jobs.now c.loop-job.job-index _ (repacks_of c.args.repacks.now) (repacks_of c.loop-job.repacks) (repacks_of c.end_copy.new.repacks) c.loop-job-test.true c.loop-job.invariant.finished
      c.end_copy.ensures.repacks;
  names = λ id. c.end_copy.ensures.names id ∙ c.loop-job.invariant.names id;
  left = left_next c.args.state c.requires c.args.jobs.now c.loop-job.job-index _ (repacks_of c.args.repacks.now) (repacks_of c.loop-job.repacks) (repacks_of c.end_copy.new.repacks) _ _ _ c.loop-job.invariant.left c.end_copy.ensures.repacks c.end_copy.ensures.pins;
  contents = c.end_copy.ensures.contents ∙ c.loop-job.invariant.contents;
}
