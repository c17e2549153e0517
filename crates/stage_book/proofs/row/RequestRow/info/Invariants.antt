-- The files that the loop has passed are told.
use Rattle.std.proofs.Common.{◌≡◌, take}
use Rattle.std.specs.Prelude.{map}
use Rattle.stage_book.specs.Reports.{file_told}
use Rattle.stage_book.proofs.row.RequestRow.info.Given as goal

abbrev pub invariant-loop-at : goal.invariant-loop-at
invariant-loop-at l = l.files.items ≡ take l.at (map file_told l.self.files)
