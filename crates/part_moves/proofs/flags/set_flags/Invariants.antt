-- The files of the jobs that the loop has passed have their flags.
use Rattle.std.proofs.Common.{◌≡◌, take}
use Rattle.cta_model.specs.Files.{copies_of_file}
use Rattle.part_model.specs.Held.{HeldAgree, set_all}
use Rattle.part_model.specs.JobRows.{book_in}
use Rattle.part_model.specs.Tapes.{safe_in}
use Rattle.part_moves.specs.Flags.{job_files}
use Rattle.part_moves.proofs.flags.set_flags.Given as goal

abbrev pub invariant-loop-job : goal.invariant-loop-job
invariant-loop-job l = record {
  held : HeldAgree l.buffer.held.value (set_all (λ f. safe_in l.table.value (book_in l.book.value).archive f (copies_of_file l.site l.history.value f)) (job_files (take l.job-index l.jobs)) l.initial.buffer.held.value);
  contents : l.buffer.contents ≡ l.initial.buffer.contents;
}
