-- The request pins none of the files that the loop has passed.
use Rattle.std.proofs.Common.{◌≡◌, take}
use Rattle.part_model.specs.Held.{HeldAgree, unpin_all}
use Rattle.part_laws.specs.BufferCalls.{owned_by}
use Rattle.caller_asks.proofs.pins.unpin_all.Given as goal

abbrev pub invariant-loop-file : goal.invariant-loop-file
invariant-loop-file l = HeldAgree l.buffer.held.value (unpin_all (owned_by l.id (take l.file-index l.files)) l.initial.buffer.held.value) × (l.buffer.contents ≡ l.initial.buffer.contents)
