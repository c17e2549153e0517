-- The request waits for the recall of none of the files that the loop has passed.
use Rattle.std.proofs.Common.{◌≡◌, length, take}
use Rattle.part_model.specs.JobRows.{book_in}
use Rattle.part_model.specs.Queues.{lines_in}
use Rattle.caller_asks.proofs.RecallLoops.{AreLeft}
use Rattle.caller_asks.proofs.recalls.leave_recalls.Given as goal

abbrev pub invariant-loop-file : goal.invariant-loop-file
invariant-loop-file l = record {
  left : AreLeft l.id (take l.file-index l.files) (book_in l.initial.book.value) (book_in l.book.value) (lines_in l.initial.recalls.value) (lines_in l.recalls.value);
  keys : length l.recalls.value ≡ length l.initial.recalls.value;
}
