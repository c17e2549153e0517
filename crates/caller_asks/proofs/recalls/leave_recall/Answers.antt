use Rattle.part_model.specs.JobRows.{book_in}
use Rattle.part_model.specs.Queues.{lines_in}
use Rattle.caller_asks.proofs.RecallLoops.{none_leaves, not_last}
use Rattle.caller_asks.proofs.recalls.leave_recall.Goals as goal

pub returns-then-not-unsubscribe-clause-lines : goal.returns-then-not-unsubscribe-clause-lines
returns-then-not-unsubscribe-clause-lines c =
    λ k. none_leaves _ (lines_in c.args.recalls.now.value) k (not_last c.args.id c.args.file (book_in c.args.book.now.value) (book_in c.unsubscribe.new.self.value) c.unsubscribe.result c.unsubscribe.ensures.book c.unsubscribe.ensures.last c.if-not-unsubscribe.true)
