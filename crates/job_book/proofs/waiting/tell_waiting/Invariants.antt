-- What was added are those that wait at the places that the loop has passed, and there is room for the others.
use Rattle.std.proofs.Common.{◌≡◌, ◌≤◌, ◌+◌, ◌++◌, length}
use Rattle.job_book.specs.Maps.{waits_at, waiting_in}
use Rattle.job_book.proofs.waiting.tell_waiting.Given as goal

abbrev pub invariant-loop-at : goal.invariant-loop-at
invariant-loop-at l = record {
  told : l.out.items ≡ l.initial.out.items ++ waiting_in (waits_at l.waiting.entries l.file) l.at;
  room : length (waiting_in (waits_at l.waiting.entries l.file) l.places) ≤ l.out.room + length (waiting_in (waits_at l.waiting.entries l.file) l.at);
}
