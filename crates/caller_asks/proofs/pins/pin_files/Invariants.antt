-- The request pins the files that the loop has passed where it does so by its book, and there is room for the others.
use Rattle.std.proofs.Common.{◌≡◌, ◌+◌, ◌≤◌, length, take}
use Rattle.std.specs.List.{flat_map}
use Rattle.part_model.specs.Held.{HeldAgree, pin_all}
use Rattle.part_moves.specs.Pinned.{request_pin}
use Rattle.caller_asks.proofs.pins.pin_files.Given as goal

abbrev pub invariant-loop-file : goal.invariant-loop-file
invariant-loop-file l = record {
  held : HeldAgree l.buffer.held.value (pin_all (flat_map (request_pin l.requests l.id) (take l.file-index l.files)) l.initial.buffer.held.value);
  contents : l.buffer.contents ≡ l.initial.buffer.contents;
  room : length l.files ≤ l.buffer.held.room + l.file-index;
}
