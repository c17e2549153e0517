-- What was told and what the walk has still before it are all failed copies.
use Rattle.std.proofs.Common.{◌≡◌, ◌++◌, length, map}
use Rattle.cta_model.specs.Bare.{bare_copy}
use Rattle.part_laws.specs.Files.{files_of}
use Rattle.part_laws.specs.Reports.{failed_copy_told}
use Rattle.part_model.specs.Order.{walk_at}
use Rattle.archive_state.proofs.FailedTold.{IsCopy}
use Rattle.archive_state.proofs.failures.tell_copies.Given as goal

abbrev pub invariant-loop-next : goal.invariant-loop-next
invariant-loop-next l = record {
  told : map bare_copy l.copies.items ++ map (failed_copy_told l.site l.parts.book.value (files_of l.history.value)) (walk_at l.next l.parts.failed.value) ≡ map (failed_copy_told l.site l.parts.book.value (files_of l.history.value)) l.parts.failed.value;
  copy : IsCopy l.next;
}

abbrev pub decreases-loop-next : goal.decreases-loop-next
decreases-loop-next l = length (walk_at l.next l.parts.failed.value)
