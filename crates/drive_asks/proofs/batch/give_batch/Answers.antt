use Rattle.std.proofs.Common.{◌≡◌, ◌∙◌, ℕ, List, ap, subst}
use Rattle.cta_model.specs.declared.asks.Item.{Item}
use Rattle.cta_model.specs.Mounts.{item_jobs}
use Rattle.cta_model.specs.Tapes.{size_of_items}
use Rattle.part_model.specs.JobBook.{TellSame, claim_jobs}
use Rattle.part_model.specs.JobRows.{book_in}
use Rattle.part_model.specs.Queues.{lines_in, taken_out}
use Rattle.part_model.specs.Tapes.{HasTurned, claimed_row}
use Rattle.drive_asks.proofs.GivenBatches.{claim_called}
use Rattle.drive_asks.proofs.batch.give_batch.Goals as goal

pub returns : goal.returns
returns c =
    let bytes : c.bytes_of.result ≡ size_of_items c.args.last.items = c.bytes_of.ensures ∙ ap size_of_items c.as_slice-3.ensures in
    λ h t drive kept mounted none.
    claim_called c.args.site.now h t drive c.args.mount c.args.tape c.args.last c.args.parts.now _ _ _ _ kept mounted none
    (subst (λ (n : ℕ). HasTurned c.args.tape (claimed_row n) c.args.parts.now.tapes.value c.claim.new.self.value) bytes c.claim.ensures.table) c.claim.ensures.tapes
    (subst (λ (xs : List Item). TellSame (book_in c.claim_jobs_of.new.book.value) (claim_jobs (item_jobs xs) c.args.mount (book_in c.args.parts.now.book.value))) c.as_slice-2.ensures c.claim_jobs_of.ensures)
    (λ k.
    c.take_jobs.ensures.lines k
    ∙ ap (λ (xs : List Item). taken_out c.pool_of_tape-pool.result (item_jobs xs) (lines_in c.args.parts.now.pools.value) k) c.as_slice.ensures
    ∙ ap (λ (q : ℕ). taken_out q (item_jobs c.args.last.items) (lines_in c.args.parts.now.pools.value) k) c.pool_of_tape-pool.ensures)
    c.take_jobs.ensures.keys c.claim-2.ensures.rows c.claim-2.ensures.downs c.claim-2.ensures.drives
