-- What is said of the charges that the loop has passed.
use Rattle.std.proofs.Common.{◌≡◌, take}
use Rattle.std.specs.Prelude.{string_bytes}
use Rattle.part_model.specs.JobRows.{book_in}
use Rattle.fault_asks.proofs.ChargeTexts.{front_text}
use Rattle.fault_asks.proofs.texts.error_of.Given as goal

abbrev pub invariant-loop-place : goal.invariant-loop-place
invariant-loop-place l = string_bytes l.text ≡ front_text l.site (take l.place ((book_in l.book.value).charges l.job))
