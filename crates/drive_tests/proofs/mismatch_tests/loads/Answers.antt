use Rattle.std.proofs.Common.{not, ap, ◌∙◌}
use Rattle.cta_model.specs.declared.answers.Answer.TheVariants as answer
use Rattle.media.specs.Memory.{mem_drive}
use Rattle.drive_tests.specs.OneRecord.{history}
use Rattle.drive_tests.proofs.Reading.{may_work, step_fits}
use Rattle.drive_tests.proofs.mismatch_tests.loads.Goals as goal

pub work-report-requires-clause-fits : goal.work-report-requires-clause-fits
work-report-requires-clause-fits c = may_work c.args.site.now c.args.sum answer.Nothing c.args.session.now c.requires.fits

pub returns-then-quiet-clause-fits : goal.returns-then-quiet-clause-fits
returns-then-quiet-clause-fits c = λ told.
    let report = c.work-report in
    let site = c.args.site.now in
    step_fits site c.args.sum answer.Nothing c.args.session.now report.new.self (mem_drive c.args.drive.now) (mem_drive report.new.drive) report.result c.requires.fits report.ensures.work
    (report.ensures.fits site (history c.args.sum answer.Nothing)) (ap not (c.is_none-quiet.ensures ∙ ap not c.if-quiet.true))
