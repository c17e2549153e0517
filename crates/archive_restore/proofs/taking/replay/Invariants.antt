-- What stands behind the records that the loop has passed.
use Rattle.std.proofs.Common.{◌≡◌}
use Rattle.archive_restore.specs.Contents.{AreContents}
use Rattle.archive_restore.specs.Logs.{IsRightLog, history_of_log}
use Rattle.archive_restore.proofs.taking.replay.Given as goal

abbrev pub invariant-loop-kept : goal.invariant-loop-kept
invariant-loop-kept l = record {
  right : IsRightLog l.initial.replayer.archive.site l.yielded;
  site : l.replayer.archive.site ≡ l.initial.replayer.archive.site;
  history : l.replayer.archive.history ≡ history_of_log l.yielded;
  contents : AreContents l.replayer.archive.history l.replayer.contents.items;
}
