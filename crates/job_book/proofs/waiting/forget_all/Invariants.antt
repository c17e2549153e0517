-- Those that wait for other files are left alone.
use Rattle.std.proofs.Common.{◌≡◌, ℕ, ◌≤◌, false}
use Rattle.std.specs.Prelude.{◌==◌}
use Rattle.std.specs.HashMap.{spare}
use Rattle.job_book.specs.Maps.{waits_at}
use Rattle.job_book.proofs.waiting.forget_all.Given as goal

abbrev pub invariant-loop-at : goal.invariant-loop-at
invariant-loop-at l = record {
  waits : (f i : ℕ) → (l.file == f) ≡ false → waits_at l.waiting.entries f i ≡ waits_at l.initial.waiting.entries f i;
  room : spare l.initial.waiting ≤ spare l.waiting;
}
