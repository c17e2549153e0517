-- The requests and repacks that the loop has passed pin the file where they do so by their books, and each took two places at most.
use Rattle.std.proofs.Common.{◌≡◌, ◌+◌, ◌*◌, ◌≤◌, take}
use Rattle.std.specs.List.{flat_map}
use Rattle.part_model.specs.Held.{HeldAgree, pin_all}
use Rattle.repack_book.specs.NamedRepacks.{repacks_of}
use Rattle.drive_asks.specs.Reading.{pins_by}
use Rattle.drive_asks.proofs.arrival.pin_all_of.Given as goal

abbrev pub invariant-loop-id : goal.invariant-loop-id
invariant-loop-id l = record {
  held : HeldAgree l.buffer.held.value (pin_all (flat_map (pins_by l.requests (repacks_of l.repacks) l.file) (take l.id-index l.ids)) l.initial.buffer.held.value);
  contents : l.buffer.contents ≡ l.initial.buffer.contents;
  room : l.initial.buffer.held.room ≤ l.buffer.held.room + 2 * l.id-index;
}
