-- The files of the jobs behind the loop's place are pinned, and there is room for the others.
use Rattle.std.proofs.Common.{◌≡◌, ◌≤◌, ◌+◌, drop, length}
use Rattle.part_model.specs.Held.{HeldAgree, pin_all}
use Rattle.tape_asks.specs.Lists.{pins_of}
use Rattle.tape_asks.proofs.writing.pin_all_of.Given as goal

abbrev pub invariant-loop-at : goal.invariant-loop-at
invariant-loop-at l = record {
  pinned : HeldAgree l.buffer.held.value (pin_all (pins_of l.number (drop l.at l.jobs)) l.initial.buffer.held.value);
  contents : l.buffer.contents ≡ l.initial.buffer.contents;
  room : l.initial.buffer.held.room + l.at ≤ l.buffer.held.room + length l.jobs;
}
