use Rattle.std.proofs.Common.{◌≡◌, ◌+◌, ◌∙◌, refl, arith}
use Rattle.part_model.specs.Tapes.{row_in}
use Rattle.drive_asks.proofs.Tables.{have_none, next_more, put_more}
use Rattle.drive_asks.proofs.items.put_items.Goals as goal

pub loop-item-init : goal.loop-item-init
loop-item-init c = record {
  flushed = have_none c.args.tape c.args.table.now.value;
  tapes = refl;
  next = omega arith;
  room = omega arith;
}

pub loop-item-preserved : goal.loop-item-preserved
loop-item-preserved c =
    let one : (row_in c.flushed.new.self.value c.args.tape).next ≡ (row_in c.loop-item.table.value c.args.tape).next + 1 = next_more c.args.tape _ _ _ c.flushed.ensures.table in
    record {
      flushed =
          put_more c.args.tape c.loop-item.item-index c.args.book.now.value c.args.items.now _ c.fate_of.result _ _ _ c.loop-item-test.true c.loop-item.invariant.flushed c.fate_of.ensures c.flushed.ensures.table;
      tapes = c.flushed.ensures.tapes ∙ c.loop-item.invariant.tapes;
      next = (let before = c.loop-item.invariant.next in omega arith);
      room = (let before = c.loop-item.invariant.room in let now = c.flushed.ensures.room in omega arith);
    }
