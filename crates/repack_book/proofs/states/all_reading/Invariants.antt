-- The copies that the loop has passed are READING, and no other has a state.
use Rattle.std.proofs.Common.{◌≡◌, ◌<◌, ℕ, take, true, Some, None}
use Rattle.std.specs.Prelude.{if◌then◌else◌}
use Rattle.cta_model.specs.declared.reports.ItemState.TheVariants as item
use Rattle.cta_model.specs.Mounts.{has_copy}
use Rattle.repack_book.specs.States.{state_at}
use Rattle.repack_book.proofs.states.all_reading.Given as goal

abbrev pub invariant-loop-job : goal.invariant-loop-job
invariant-loop-job l = record {
  states : (f c : ℕ) → state_at l.states.entries f c ≡ (if has_copy f c (take l.job-index l.jobs) then Some item.Reading else None);
  low : (f c : ℕ) → has_copy f c (take l.job-index l.jobs) ≡ true → c < 256;
}
