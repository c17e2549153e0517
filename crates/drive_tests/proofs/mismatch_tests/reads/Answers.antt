use Rattle.drive_tests.proofs.Reading.{may_work}
use Rattle.drive_tests.proofs.mismatch_tests.reads.Goals as goal

pub work-report-requires-clause-fits : goal.work-report-requires-clause-fits
work-report-requires-clause-fits c = may_work c.args.site.now c.args.sum c.requires.fits.0 c.args.session.now c.requires.fits.1
