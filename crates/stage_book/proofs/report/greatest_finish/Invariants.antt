-- The greatest finish of the files that the loop has passed.
use Rattle.std.proofs.Common.{◌≡◌, drop}
use Rattle.stage_book.specs.Reports.{greatest_told}
use Rattle.stage_book.proofs.report.greatest_finish.Given as goal

abbrev pub invariant-loop-at : goal.invariant-loop-at
invariant-loop-at l = l.greatest ≡ greatest_told (drop l.at l.files)
