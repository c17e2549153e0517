use Rattle.std.proofs.Common.{◌∙◌, ◌<◌, ℕ, refl, sym, subst}
use Rattle.part_model.specs.JobRows.{book_in}
use Rattle.part_model.specs.Queues.{lines_in}
use Rattle.caller_asks.proofs.RecallLoops.{left_more, left_none, stand_still}
use Rattle.caller_asks.proofs.recalls.leave_recalls.Goals as goal

pub loop-file-init : goal.loop-file-init
loop-file-init c = record { left = left_none c.args.id (book_in c.args.book.now.value) (lines_in c.args.recalls.now.value); keys = refl }

pub leave_recall-requires-clause-keys : goal.leave_recall-requires-clause-keys
leave_recall-requires-clause-keys c = λ f d p is. subst (λ (n : ℕ). p.tape < n) (sym c.loop-file.invariant.keys) (c.requires.keys f d p is)

pub leave_recall-requires-clause-stands : goal.leave_recall-requires-clause-stands
leave_recall-requires-clause-stands c = stand_still c.args.tapes.now.value 4 _ (lines_in c.args.recalls.now.value) (lines_in c.loop-file.recalls.value) c.requires.stands c.loop-file.invariant.left.lines

pub loop-file-preserved : goal.loop-file-preserved
loop-file-preserved c = record {
  left = left_more c.args.id c.loop-file.file-index c.args.files.now _ (book_in c.args.book.now.value) (book_in c.loop-file.book.value) (book_in c.leave_recall.new.book.value) (lines_in c.args.recalls.now.value) (lines_in c.loop-file.recalls.value) (lines_in c.leave_recall.new.recalls.value)
      c.loop-file-test.true c.loop-file.invariant.left c.leave_recall.ensures.book c.leave_recall.ensures.lines;
  keys = c.leave_recall.ensures.keys ∙ c.loop-file.invariant.keys;
}
