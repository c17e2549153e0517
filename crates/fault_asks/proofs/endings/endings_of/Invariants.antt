-- How it ends for those that the loop has passed.
use Rattle.std.proofs.Common.{◌≡◌, take}
use Rattle.std.specs.Prelude.{map}
use Rattle.part_model.specs.JobRows.{book_in}
use Rattle.fault_asks.specs.Reading.{ending_of}
use Rattle.fault_asks.proofs.endings.endings_of.Given as goal

abbrev pub invariant-loop-pair : goal.invariant-loop-pair
invariant-loop-pair l = l.endings.items ≡ map (ending_of l.site (book_in l.book.value) l.charge) (take l.pair-index l.pairs)
