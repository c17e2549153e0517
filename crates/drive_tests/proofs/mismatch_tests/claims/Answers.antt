use Rattle.std.proofs.Common.{◌∙◌}
use Rattle.cta_model.specs.declared.answers.Answer.TheVariants as answer
use Rattle.media.specs.Memory.{mem_drive}
use Rattle.drive_tests.specs.OneRecord.{history}
use Rattle.drive_tests.proofs.Reading.{batch_taken, claim_asked, may_work}
use Rattle.drive_tests.proofs.mismatch_tests.claims.Goals as goal

pub work-report-requires-clause-fits : goal.work-report-requires-clause-fits
work-report-requires-clause-fits c = may_work c.args.site.now c.args.sum answer.Nothing c.args.session.now c.requires.fits

pub returns-then-asked-clause-fits : goal.returns-then-asked-clause-fits
returns-then-asked-clause-fits c = λ told.
    let report = c.work-report in
    let site = c.args.site.now in
    let asked = claim_asked site c.args.sum c.args.session.now report.new.self (mem_drive c.args.drive.now) (mem_drive report.new.drive) report.result c.requires.fits report.ensures.work (report.ensures.fits site (history c.args.sum answer.Nothing)) (c.is_claim-asked.ensures c.if-asked.true) in
    (answer.Batch c.args.batch.0 c.args.batch.1, (batch_taken site c.args.sum report.new.self c.take.new.self c.args.batch.0 c.args.batch.1 c.take.result asked c.requires.items c.take.ensures.taken).0)

pub returns-then-asked-clause-loaded : goal.returns-then-asked-clause-loaded
returns-then-asked-clause-loaded c = λ told.
    let report = c.work-report in
    let site = c.args.site.now in
    let asked = claim_asked site c.args.sum c.args.session.now report.new.self (mem_drive c.args.drive.now) (mem_drive report.new.drive) report.result c.requires.fits report.ensures.work (report.ensures.fits site (history c.args.sum answer.Nothing)) (c.is_claim-asked.ensures c.if-asked.true) in
    report.ensures.loaded ∙ (batch_taken site c.args.sum report.new.self c.take.new.self c.args.batch.0 c.args.batch.1 c.take.result asked c.requires.items c.take.ensures.taken).1
