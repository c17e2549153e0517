use Rattle.std.proofs.Common.{◌∙◌, refl}
use Rattle.cta_model.specs.Files.{copies_of_file}
use Rattle.part_model.specs.Held.{pin_all, set_all}
use Rattle.part_model.specs.JobRows.{book_in}
use Rattle.part_model.specs.Tapes.{safe_in}
use Rattle.part_moves.specs.Flags.{job_files}
use Rattle.part_moves.proofs.Marks.{held_chain}
use Rattle.tape_asks.specs.Lists.{pins_of}
use Rattle.tape_asks.proofs.BirthLoops.{flags_same}
use Rattle.tape_asks.proofs.settled.settle.Goals as goal

pub queue_reads-requires-clause-jobs : goal.queue_reads-requires-clause-jobs
queue_reads-requires-clause-jobs c = c.requires.can_read (book_in c.bear_jobs_of.new.book.value)

pub queue_writes-requires-clause-jobs : goal.queue_writes-requires-clause-jobs
queue_writes-requires-clause-jobs c = c.requires.can_write (book_in c.bear_jobs_of.new.book.value)

pub returns : goal.returns
returns c = record {
  book = c.bear_jobs_of.ensures;
  recalls = c.queue_reads.ensures.lines;
  lines = c.queue_writes.ensures.lines;
  recall_keys = c.queue_reads.ensures.keys;
  pool_keys = c.queue_writes.ensures.keys;
  states = c.write_all.ensures.repacks;
  names = c.write_all.ensures.names;
  held = held_chain c.set_flags.new.buffer.held.value (set_all (λ f. safe_in c.args.parts.now.tapes.value (book_in c.bear_jobs_of.new.book.value).archive f (copies_of_file c.args.site.now c.args.history.now.value f)) (job_files c.args.items.now) c.pin_all_of.new.buffer.held.value) _ c.set_flags.ensures.held
      (flags_same (λ f. safe_in c.args.parts.now.tapes.value (book_in c.bear_jobs_of.new.book.value).archive f (copies_of_file c.args.site.now c.args.history.now.value f)) (job_files c.args.items.now) c.pin_all_of.new.buffer.held.value (pin_all (pins_of c.args.number c.args.written.now) c.args.parts.now.buffer.held.value) c.pin_all_of.ensures.held);
  contents = c.set_flags.ensures.contents ∙ c.pin_all_of.ensures.contents;
  rest = refl;
}
