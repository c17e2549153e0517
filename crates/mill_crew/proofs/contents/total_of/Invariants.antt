-- The bytes before the loop's place are added up.
use Rattle.std.specs.Prelude.{◌≡◌, ◌%◌, ◌^◌, take, sum}
use Rattle.mill_crew.proofs.contents.total_of.Given as goal

abbrev pub invariant-loop-byte : goal.invariant-loop-byte
invariant-loop-byte l = l.total ≡ sum (take l.byte-index l.bytes) % 2 ^ 64
