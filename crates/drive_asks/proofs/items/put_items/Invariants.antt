-- The items that the loop has passed are on tape, and there is room for the others.
use Rattle.std.proofs.Common.{◌≡◌, ◌≤◌, ◌+◌, length, take}
use Rattle.part_model.specs.Tapes.{HaveFlushed, row_in}
use Rattle.drive_asks.specs.Items.{with_fates}
use Rattle.drive_asks.proofs.items.put_items.Given as goal

abbrev pub invariant-loop-item : goal.invariant-loop-item
invariant-loop-item l = record {
  flushed : HaveFlushed l.tape (with_fates l.book.value (take l.item-index l.items)) l.initial.table.value l.table.value;
  tapes : length l.table.value.rows ≡ length l.initial.table.value.rows;
  next : (row_in l.table.value l.tape).next ≡ (row_in l.initial.table.value l.tape).next + l.item-index;
  room : length l.items ≤ l.table.room + l.item-index;
}
