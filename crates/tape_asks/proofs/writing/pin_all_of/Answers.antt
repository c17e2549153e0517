use Rattle.std.proofs.Common.{◌∙◌, ◌≤◌, arith, length, refl}
use Rattle.tape_asks.proofs.BirthLoops.{back_pinned, pinned_none}
use Rattle.tape_asks.proofs.writing.pin_all_of.Goals as goal

pub loop-at-init : goal.loop-at-init
loop-at-init c = record { pinned = pinned_none c.args.number c.args.jobs.now c.args.buffer.now.held.value; contents = refl; room = omega arith }

pub loop-at-preserved : goal.loop-at-preserved
loop-at-preserved c =
    let top : c.loop-at.at ≤ length c.args.jobs.now = (let up = c.loop-at.auto.at in omega arith) in
    record {
      pinned = back_pinned c.args.number c.loop-at.at _ c.args.jobs.now c.args.buffer.now.held.value c.loop-at.buffer.held.value c.pin.new.self.held.value c.loop-at-test.true top c.loop-at.invariant.pinned c.pin.ensures.held;
      contents = c.pin.ensures.contents ∙ c.loop-at.invariant.contents;
      room = (let was = c.loop-at.invariant.room in let left = c.pin.ensures.room in let some = c.loop-at-test.true in omega arith);
    }
