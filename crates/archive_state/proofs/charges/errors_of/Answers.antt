use Rattle.std.proofs.Common.{◌∙◌, sym}
use Rattle.cta_model.specs.Mounts.{job_of}
use Rattle.part_model.specs.JobRows.{charges_in}
use Rattle.archive_state.proofs.FailedTold.{error_more}
use Rattle.archive_state.proofs.charges.errors_of.Goals as goal

pub loop-place-preserved : goal.loop-place-preserved
loop-place-preserved c =
    error_more c.args.site.now (charges_in c.args.book.now.value.charges (job_of c.in-Some.birth c.args.file c.args.copy)) c.loop-place.place c.in-Some-charge_at.charge c.loop-place.errors.items c.push.new.self.items c.in_ok-text.text
    (sym c.charge_at.ensures ∙ c.in-Some-charge_at.is) c.loop-place.invariant c.in_ok-text.ensures c.in_ok-push.ensures.items
