-- The claims of the items that the loop has passed have ended.
use Rattle.std.proofs.Common.{take}
use Rattle.cta_model.specs.Mounts.{item_jobs}
use Rattle.part_model.specs.JobBook.{TellSame, give_back_jobs}
use Rattle.part_model.specs.JobRows.{book_in}
use Rattle.drive_asks.proofs.jobs.give_back.Given as goal

abbrev pub invariant-loop-item : goal.invariant-loop-item
invariant-loop-item l = TellSame (book_in l.book.value) (give_back_jobs (item_jobs (take l.item-index l.items)) (book_in l.initial.book.value))
