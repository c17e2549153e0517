-- The jobs that are added and those of the copies that the walk has still before it are all of the file, and the walk is behind the file's
-- copy 0.
use Rattle.std.proofs.Common.{◌≡◌, ◌++◌, length}
use Rattle.std.specs.Prelude.{Some}
use Rattle.part_laws.specs.Operators.{retried_with}
use Rattle.part_model.specs.Order.{walk_at}
use Rattle.fault_asks.proofs.FailedWalks.{IsLater}
use Rattle.fault_asks.proofs.copies.add_copies.Given as goal

abbrev pub invariant-loop-next : goal.invariant-loop-next
invariant-loop-next l = record {
  made : l.jobs.items ++ retried_with l.number (walk_at l.next l.failed.value) (Some l.file) ≡ l.initial.jobs.items ++ retried_with l.number l.failed.value (Some l.file);
  later : IsLater l.file l.next;
}

abbrev pub decreases-loop-next : goal.decreases-loop-next
decreases-loop-next l = length (walk_at l.next l.failed.value)
