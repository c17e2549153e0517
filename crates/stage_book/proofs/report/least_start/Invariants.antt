-- The least start of the files that the loop has passed.
use Rattle.std.proofs.Common.{◌≡◌, drop}
use Rattle.stage_book.specs.Reports.{least_told}
use Rattle.stage_book.proofs.report.least_start.Given as goal

abbrev pub invariant-loop-at : goal.invariant-loop-at
invariant-loop-at l = l.least ≡ least_told (drop l.at l.files)
