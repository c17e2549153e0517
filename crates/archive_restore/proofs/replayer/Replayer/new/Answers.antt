use Rattle.std.proofs.Common.{ap, length}
use Rattle.archive_restore.proofs.Labelled.{labels_begin}
use Rattle.archive_restore.proofs.Grown.{no_contents}
use Rattle.archive_restore.proofs.replayer.Replayer.new.Goals as goal

pub new-requires : goal.new-requires
new-requires c = labels_begin c.args.site _ c.in_ok-labels.labels.items (ap length c.tapes.ensures) c.in_ok-labels.ensures

pub returns-clause-contents : goal.returns-clause-contents
returns-clause-contents c = rw (c.in_ok-archive.ensures, c.push.ensures.items, c.in_ok-push.was, c.new-contents.ensures.items) no_contents
