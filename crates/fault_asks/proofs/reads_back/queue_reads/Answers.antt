use Rattle.std.proofs.Common.{◌∙◌, ◌≤◌, arith, length, refl, sym}
use Rattle.cta_model.specs.declared.asks.Direction.TheVariants as direction
use Rattle.part_model.specs.JobRows.{book_in}
use Rattle.part_model.specs.Queues.{lines_in}
use Rattle.part_laws.specs.Lines.{line_of}
use Rattle.fault_asks.specs.Reading.{source_in}
use Rattle.fault_asks.proofs.BackLists.{back_fits, can_back, first_lacks}
use Rattle.fault_asks.proofs.reads_back.queue_reads.Goals as goal

pub queue_read-requires-clause-put : goal.queue_read-requires-clause-put
queue_read-requires-clause-put c =
    let top : c.loop-at.at ≤ length c.args.jobs.now = (let up = c.loop-at.auto.at in omega arith) in
    ((can_back c.args.site.now c.args.history.now.value (book_in c.args.book.now.value) (lines_in c.args.recalls.now.value) c.loop-at.at _ c.args.jobs.now c.loop-at-test.true top c.requires.jobs).0 (sym c.is_live.ensures ∙ c.if-not-is_live.false)).put

pub queue_read-requires-clause-lacks : goal.queue_read-requires-clause-lacks
queue_read-requires-clause-lacks c =
    let top : c.loop-at.at ≤ length c.args.jobs.now = (let up = c.loop-at.auto.at in omega arith) in
    first_lacks c.args.site.now c.args.history.now.value (book_in c.args.book.now.value) (source_in c.args.tapes.now.value (book_in c.args.book.now.value)) (line_of c.args.site.now c.args.history.now.value direction.Retrieve) (λ i. refl) _ _ (lines_in c.args.recalls.now.value)
    (lines_in c.loop-at.recalls.value) (can_back c.args.site.now c.args.history.now.value (book_in c.args.book.now.value) (lines_in c.args.recalls.now.value) c.loop-at.at _ c.args.jobs.now c.loop-at-test.true top c.requires.jobs) c.loop-at.invariant.lines (sym c.is_live.ensures ∙ c.if-not-is_live.false)

pub queue_read-requires-clause-fits : goal.queue_read-requires-clause-fits
queue_read-requires-clause-fits c =
    let top : c.loop-at.at ≤ length c.args.jobs.now = (let up = c.loop-at.auto.at in omega arith) in
    back_fits (book_in c.args.book.now.value) (source_in c.args.tapes.now.value (book_in c.args.book.now.value)) (line_of c.args.site.now c.args.history.now.value direction.Retrieve) (λ i. c.requires.small i.file) c.loop-at.at c.args.jobs.now (lines_in c.args.recalls.now.value)
    (lines_in c.loop-at.recalls.value) _ c.loop-at-test.true top (c.requires.small _) c.loop-at.invariant.lines c.requires.fits
