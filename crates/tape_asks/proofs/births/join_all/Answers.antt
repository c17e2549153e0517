use Rattle.std.proofs.Common.{◌≤◌, arith, length}
use Rattle.part_model.specs.JobRows.{book_in}
use Rattle.tape_asks.proofs.BirthLoops.{back_joined, joined_none}
use Rattle.tape_asks.proofs.births.join_all.Goals as goal

pub loop-at-init : goal.loop-at-init
loop-at-init c = record { joined = joined_none c.args.number c.args.files.now (book_in c.args.book.now.value); room = omega arith }

pub loop-at-preserved : goal.loop-at-preserved
loop-at-preserved c =
    let top : c.loop-at.at ≤ length c.args.files.now = (let up = c.loop-at.auto.at in omega arith) in
    record {
      joined = back_joined c.args.number c.loop-at.at _ c.args.files.now (book_in c.args.book.now.value) (book_in c.loop-at.book.value) (book_in c.subscribe.new.self.value) c.loop-at-test.true top c.requires.once c.loop-at.invariant.joined c.subscribe.ensures.book;
      room = (let was = c.loop-at.invariant.room in let left = c.subscribe.ensures.room in let some = c.loop-at-test.true in omega arith);
    }
