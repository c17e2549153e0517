use Rattle.std.proofs.Common.{◌∙◌, List, ap, subst}
use Rattle.cta_model.specs.declared.asks.Item.{Item}
use Rattle.cta_model.specs.Mounts.{item_jobs}
use Rattle.part_model.specs.JobBook.{TellSame, claim_jobs}
use Rattle.part_model.specs.JobRows.{book_in}
use Rattle.part_model.specs.Queues.{lines_in, taken_out}
use Rattle.drive_asks.proofs.GivenReads.{reads_called}
use Rattle.drive_asks.proofs.giving.give_reads.Goals as goal

pub returns-clause-called : goal.returns-clause-called
returns-clause-called c =
    λ site h drive kept mounted all size pairs.
    reads_called site h c.args.at drive c.args.mount c.args.tape c.args.bytes c.args.last c.args.parts.now _ _ _ _ _ c.args.waiters.now kept mounted all size pairs c.set_aside.ensures.held c.set_aside.ensures.contents c.start_all.ensures
    (subst (λ (xs : List Item). TellSame (book_in c.claim_jobs_of.new.book.value) (claim_jobs (item_jobs xs) c.args.mount (book_in c.args.parts.now.book.value))) c.as_slice-2.ensures c.claim_jobs_of.ensures)
    (λ k. c.take_jobs.ensures.lines k ∙ ap (λ (xs : List Item). taken_out c.args.tape (item_jobs xs) (lines_in c.args.parts.now.recalls.value) k) c.as_slice.ensures) c.take_jobs.ensures.keys c.claim.ensures.rows c.claim.ensures.downs
    c.claim.ensures.drives
