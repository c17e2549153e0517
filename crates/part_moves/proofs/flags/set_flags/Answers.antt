use Rattle.std.proofs.Common.{◌∙◌}
use Rattle.cta_model.specs.Files.{copies_of_file}
use Rattle.part_model.specs.JobRows.{book_in}
use Rattle.part_model.specs.Tapes.{safe_in}
use Rattle.part_moves.proofs.Marks.{flag_next}
use Rattle.part_moves.proofs.flags.set_flags.Goals as goal

pub loop-job-preserved : goal.loop-job-preserved
loop-job-preserved c = record {
  held =
      flag_next (safe_in c.args.table.now.value (book_in c.args.book.now.value).archive) (copies_of_file c.args.site.now c.args.history.now.value) c.args.jobs.now c.loop-job.job-index _ _ _ _ _ _ c.loop-job-test.true c.loop-job.invariant.held
      c.copies_of-copies.ensures.copies c.is_safe.ensures c.set_safe.ensures.held;
  contents = c.set_safe.ensures.contents ∙ c.loop-job.invariant.contents;
}
