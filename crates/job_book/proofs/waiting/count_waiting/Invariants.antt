-- The count is that of the places that the loop has passed.
use Rattle.std.proofs.Common.{◌≡◌, ◌≤◌, length}
use Rattle.job_book.specs.Maps.{waits_at, waiting_in}
use Rattle.job_book.proofs.waiting.count_waiting.Given as goal

abbrev pub invariant-loop-at : goal.invariant-loop-at
invariant-loop-at l = record {
  counted : l.count ≡ length (waiting_in (waits_at l.waiting.entries l.file) l.at);
  low : l.count ≤ l.at;
}
