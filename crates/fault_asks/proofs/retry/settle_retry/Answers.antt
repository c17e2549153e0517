use Rattle.std.proofs.Common.{◌∙◌, ap, subst}
use Rattle.cta_model.specs.declared.asks.Direction.TheVariants as direction
use Rattle.cta_model.specs.Files.{copies_of_file}
use Rattle.cta_model.specs.History.{History}
use Rattle.part_model.specs.Held.{HeldAgree, set_all}
use Rattle.part_model.specs.JobRows.{book_in}
use Rattle.part_model.specs.Queues.{lines_in}
use Rattle.part_model.specs.Tapes.{safe_in}
use Rattle.part_laws.specs.Lines.{add_jobs}
use Rattle.part_moves.specs.Flags.{job_files}
use Rattle.fault_asks.proofs.RetryCalls.{retry_called}
use Rattle.fault_asks.proofs.retry.settle_retry.Goals as goal

pub returns : goal.returns
returns c =
    λ h t who paths legal is number kept.
    retry_called c.args.site.now h t c.args.number who paths c.args.jobs.now c.args.parts.now c.take_all.new.failed c.bear_all.new.book c.queue_all.new.pools c.set_flags.new.buffer
    (record {
      legal = legal;
      kept = kept;
      number = number;
      taken = c.take_all.ensures;
      born = c.bear_all.ensures;
      lines = λ k. c.queue_all.ensures.lines k ∙ ap (λ (g : History). add_jobs c.args.site.now g direction.Archive c.args.jobs.now (lines_in c.args.parts.now.pools.value) k) is;
      keys = c.queue_all.ensures.keys;
      flags = subst (λ (g : History). HeldAgree c.set_flags.new.buffer.held.value (set_all (λ f. safe_in c.args.parts.now.tapes.value (book_in c.bear_all.new.book.value).archive f (copies_of_file c.args.site.now g f)) (job_files c.args.jobs.now) c.args.parts.now.buffer.held.value)) is c.set_flags.ensures.held;
      contents = c.set_flags.ensures.contents;
    })
