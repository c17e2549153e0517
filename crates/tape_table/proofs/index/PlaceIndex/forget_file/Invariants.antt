-- The copies that the loop has passed have no place.
use Rattle.std.proofs.Common.{◌≡◌, ℕ, ◌≤◌, ◌&&◌, None}
use Rattle.std.specs.Prelude.{if◌then◌else◌, ◌==◌, nat_lt}
use Rattle.part_model.specs.Tapes.{AreDistinct, place_among}
use Rattle.tape_table.proofs.index.PlaceIndex.forget_file.Given as goal

abbrev pub invariant-loop-copy : goal.invariant-loop-copy
invariant-loop-copy l = record {
  places : (f c : ℕ) → place_among l.self.places f c ≡ (if l.file == f && nat_lt c l.copy then None else place_among l.initial.self.places f c);
  distinct : AreDistinct l.self.places;
  tapes : l.self.tapes ≡ l.initial.self.tapes;
  room : l.initial.self.room ≤ l.self.room;
}
