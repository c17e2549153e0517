-- At the places that the loop has passed the entry is left out.
use Rattle.std.proofs.Common.{◌≡◌, ℕ, ◌≤◌, ◌&&◌}
use Rattle.std.specs.Prelude.{if◌then◌else◌, ◌==◌, nat_lt}
use Rattle.std.specs.HashMap.{spare}
use Rattle.job_book.specs.Maps.{waits_at, left_out}
use Rattle.job_book.proofs.waiting.forget.Given as goal

abbrev pub invariant-loop-at : goal.invariant-loop-at
invariant-loop-at l = record {
  waits : (f i : ℕ) → waits_at l.waiting.entries f i ≡ (if l.file == f && nat_lt i l.at then left_out l.owner (waits_at l.initial.waiting.entries f i) else waits_at l.initial.waiting.entries f i);
  room : spare l.initial.waiting ≤ spare l.waiting;
}
