-- The files that the loop has passed are rows in their order.
use Rattle.std.proofs.Common.{◌≡◌, take}
use Rattle.stage_book.specs.FileRows.{files_in}
use Rattle.stage_book.proofs.Paths.{added}
use Rattle.stage_book.proofs.row.rows_of.Given as goal

abbrev pub invariant-loop-file : goal.invariant-loop-file
invariant-loop-file l = files_in l.rows.entries ≡ added l.at (take l.file-index l.files)
