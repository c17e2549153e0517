use Rattle.std.proofs.Common.{◌∙◌, refl}
use Rattle.caller_asks.proofs.PinLoops.{unpin_more}
use Rattle.caller_asks.proofs.pins.unpin_all.Goals as goal
use Rattle.part_moves.proofs.SameParts.{same_buffer}

pub loop-file-init : goal.loop-file-init
loop-file-init c = (same_buffer c.args.buffer.now.held.value, refl)

pub loop-file-preserved : goal.loop-file-preserved
loop-file-preserved c = (
  unpin_more c.args.id c.loop-file.file-index c.args.files.now _ c.args.buffer.now.held.value c.loop-file.buffer.held.value c.unpin.new.self.held.value c.loop-file-test.true c.loop-file.invariant.0 c.unpin.ensures.held,
  c.unpin.ensures.contents ∙ c.loop-file.invariant.1,
)
