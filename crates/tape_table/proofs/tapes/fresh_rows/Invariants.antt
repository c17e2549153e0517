-- There is a row for each tape that the loop has passed.
use Rattle.std.proofs.Common.{◌≡◌, take, map}
use Rattle.tape_table.specs.Rows.{fresh_row}
use Rattle.tape_table.proofs.tapes.fresh_rows.Given as goal

abbrev pub invariant-loop-tape : goal.invariant-loop-tape
invariant-loop-tape l = l.rows.items ≡ map fresh_row (take l.tape-index l.tapes)
