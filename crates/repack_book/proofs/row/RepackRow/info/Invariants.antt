-- The items that the loop has passed are told.
use Rattle.std.proofs.Common.{◌≡◌, take}
use Rattle.repack_book.specs.Reports.{items_told}
use Rattle.repack_book.proofs.row.RepackRow.info.Given as goal

abbrev pub invariant-loop-at : goal.invariant-loop-at
invariant-loop-at l = l.items.items ≡ take l.at (items_told l.self.repack.items l.self.paths)
