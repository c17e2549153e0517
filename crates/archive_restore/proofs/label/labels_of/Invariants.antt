-- The labels of the tapes that the loop has passed.
use Rattle.archive_restore.specs.Labels.{AreLabels}
use Rattle.archive_restore.proofs.label.labels_of.Given as goal

abbrev pub invariant-loop-tape : goal.invariant-loop-tape
invariant-loop-tape l = AreLabels l.tape l.labels.items
