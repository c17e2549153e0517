use Rattle.std.proofs.Common.{refl}
use Rattle.archive_restore.proofs.Taken.{contents_taken}
use Rattle.archive_restore.proofs.replayer.Replayer.take.Goals as goal

pub returns-clause-contents : goal.returns-clause-contents
returns-clause-contents c =
    contents_taken c.follow.result c.args.kept.entry c.args.self.now.archive.history c.follow.new.self.archive.history c.args.self.now.contents.items c.follow.new.self.contents.items c.args.kept.blob c.in-Ok.content
    c.requires c.in-Ok.ensures.content (c.if-not-may_take.ensures.fits refl).content c.follow.ensures.history c.follow.ensures.contents
