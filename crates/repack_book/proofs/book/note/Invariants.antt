-- The copies that the loop has passed are noted, and there is room for the others.
use Rattle.std.proofs.Common.{◌≡◌, ◌≤◌, ◌+◌, ◌||◌, ℕ, length, take}
use Rattle.std.specs.Prelude.{◌==◌, ◌&&◌}
use Rattle.cta_model.specs.Mounts.{has_copy}
use Rattle.repack_book.specs.Order.{has_holder, has_item}
use Rattle.repack_book.proofs.book.note.Given as goal

abbrev pub invariant-loop-job : goal.invariant-loop-job
invariant-loop-job l = record {
  items : (t r f c : ℕ) → has_item l.items.value t r f c ≡ (((t == l.tape && r == l.id) && has_copy f c (take l.job-index l.jobs)) || has_item l.initial.items.value t r f c);
  holders : (f c r : ℕ) → has_holder l.holders.value f c r ≡ ((r == l.id && has_copy f c (take l.job-index l.jobs)) || has_holder l.initial.holders.value f c r);
  items_room : length l.jobs ≤ l.items.room + l.job-index;
  holders_room : length l.jobs ≤ l.holders.room + l.job-index;
}
