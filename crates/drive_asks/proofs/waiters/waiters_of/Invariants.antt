-- The entries that wait for the recalls of the items that the loop has passed were added.
use Rattle.std.proofs.Common.{◌≡◌, take}
use Rattle.part_model.specs.JobRows.{book_in}
use Rattle.drive_asks.specs.Waiting.{files_in}
use Rattle.part_moves.specs.Waiting.{waits_for_all}
use Rattle.drive_asks.proofs.waiters.waiters_of.Given as goal

abbrev pub invariant-loop-item : goal.invariant-loop-item
invariant-loop-item l = l.pairs.items ≡ waits_for_all (book_in l.book.value).recall (files_in (take l.item-index l.items))
