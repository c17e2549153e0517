use Rattle.std.proofs.Common.{◌∙◌, arith, refl}
use Rattle.repack_book.specs.NamedRepacks.{repacks_of}
use Rattle.drive_asks.specs.Reading.{repack_pin}
use Rattle.part_moves.specs.Pinned.{request_pin}
use Rattle.drive_asks.proofs.ArrivalPins.{pinned_more, same_held}
use Rattle.drive_asks.proofs.arrival.pin_all_of.Goals as goal

pub loop-id-init : goal.loop-id-init
loop-id-init c = record { held = same_held c.args.buffer.now.held.value; contents = refl; room = omega arith }

pub loop-id-preserved : goal.loop-id-preserved
loop-id-preserved c = record {
  held = pinned_more (request_pin c.args.requests.now) (repack_pin (repacks_of c.args.repacks.now)) c.args.file c.args.ids.now c.loop-id.id-index _ c.args.buffer.now.held.value c.loop-id.buffer.held.value c.pin_request.new.buffer.held.value c.pin_repack.new.buffer.held.value
      c.loop-id-test.true c.loop-id.invariant.held c.pin_request.ensures.held c.pin_repack.ensures.held;
  contents = c.pin_repack.ensures.contents ∙ c.pin_request.ensures.contents ∙ c.loop-id.invariant.contents;
  room = (let was = c.loop-id.invariant.room in let a = c.pin_request.ensures.room in let b = c.pin_repack.ensures.room in omega arith);
}
