use Rattle.std.proofs.Common.{◌∙◌, arith, refl}
use Rattle.part_moves.specs.Pinned.{request_pin}
use Rattle.caller_asks.proofs.PinLoops.{pinned_more}
use Rattle.caller_asks.proofs.pins.pin_files.Goals as goal
use Rattle.part_moves.proofs.SameParts.{same_buffer}

pub loop-file-init : goal.loop-file-init
loop-file-init c = record { held = same_buffer c.args.buffer.now.held.value; contents = refl; room = (let room = c.requires in omega arith) }

pub loop-file-preserved : goal.loop-file-preserved
loop-file-preserved c = record {
  held = pinned_more (request_pin c.args.requests.now c.args.id) c.args.files.now c.loop-file.file-index _ c.args.buffer.now.held.value c.loop-file.buffer.held.value c.pin_request.new.buffer.held.value c.loop-file-test.true c.loop-file.invariant.held c.pin_request.ensures.held;
  contents = c.pin_request.ensures.contents ∙ c.loop-file.invariant.contents;
  room = (let was = c.loop-file.invariant.room in let a = c.pin_request.ensures.room in omega arith);
}
