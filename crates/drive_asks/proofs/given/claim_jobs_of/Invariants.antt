-- The jobs of the items that the loop has passed were claimed.
use Rattle.std.proofs.Common.{◌≤◌, ◌+◌, length, take}
use Rattle.cta_model.specs.Mounts.{item_jobs}
use Rattle.part_model.specs.JobBook.{TellSame, claim_jobs}
use Rattle.part_model.specs.JobRows.{book_in}
use Rattle.drive_asks.proofs.given.claim_jobs_of.Given as goal

abbrev pub invariant-loop-item : goal.invariant-loop-item
invariant-loop-item l = record {
  book : TellSame (book_in l.book.value) (claim_jobs (item_jobs (take l.item-index l.items)) l.mount (book_in l.initial.book.value));
  room : length l.items ≤ l.book.room + l.item-index;
}
