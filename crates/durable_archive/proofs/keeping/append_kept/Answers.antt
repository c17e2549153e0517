use Rattle.std.proofs.Common.{◌∙◌, Err, ap}
use Rattle.cta_journal.specs.Standing.{disk_of}
use Rattle.cta_journal.proofs.Moments.{weaker}
use Rattle.durable_archive.specs.Records.{MayHaveMore}
use Rattle.durable_archive.proofs.Appended.{more_fits}
use Rattle.durable_archive.proofs.keeping.append_kept.Goals as goal

pub returns-in-Ok-clause-any_moment : goal.returns-in-Ok-clause-any_moment
returns-in-Ok-clause-any_moment g c = λ bodies s.
    weaker g.K.Disk.moment g.K.Disk.left_since (disk_of c.args.journal.now) (disk_of c.append.new.self) _ (MayHaveMore bodies c.args.kept.now) (c.append.ensures.any_moment bodies s) (more_fits bodies c.args.kept.now c.in-Ok.ensures.fits)

pub returns-in-Err-Fault-clause-any_moment : goal.returns-in-Err-Fault-clause-any_moment
returns-in-Err-Fault-clause-any_moment g c = λ bodies s.
    weaker g.K.Disk.moment g.K.Disk.left_since (disk_of c.args.journal.now) (disk_of c.append.new.self) _ (MayHaveMore bodies c.args.kept.now) (c.append.ensures.any_moment bodies s) (more_fits bodies c.args.kept.now (c.append.ensures.known (c.in-Err-Fault.is ∙ ap Err c.in-Err-Fault.field-0-is)))
