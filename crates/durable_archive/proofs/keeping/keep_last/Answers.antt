use Rattle.std.proofs.Common.{subst}
use Rattle.cta_journal.specs.Standing.{disk_of}
use Rattle.cta_journal.proofs.Moments.{weaker}
use Rattle.durable_archive.specs.Records.{IsLastKept, MayHaveMore, MayHaveNext}
use Rattle.durable_archive.proofs.Appended.{may_have_next, next_stands_for, on_both}
use Rattle.durable_archive.proofs.keeping.keep_last.Goals as goal

pub returns-in-Ok-Some-clause-stored : goal.returns-in-Ok-Some-clause-stored
returns-in-Ok-Some-clause-stored g c = λ e h bodies is are s.
    let archive = c.args.archive.now in
    let appended = c.append_kept-appended in
    on_both appended.result appended.ensures.fits (appended.ensures.stored bodies s)
    (λ fits stands. next_stands_for archive.site c.in-Ok-Some.kept bodies g.K.Disk.content g.K.Disk.may_leave appended.new.journal e h archive.history is c.keeps_history.ensures (subst (IsLastKept archive.history) c.in-Ok-Some.field-0-is c.in-Ok-Some.ensures) are fits stands)

pub returns-in-Ok-Some-clause-any_moment : goal.returns-in-Ok-Some-clause-any_moment
returns-in-Ok-Some-clause-any_moment g c = λ e h bodies is are s.
    let archive = c.args.archive.now in
    let appended = c.append_kept-appended in
    weaker g.K.Disk.moment g.K.Disk.left_since (disk_of c.args.journal.now) (disk_of appended.new.journal) (MayHaveMore bodies c.in-Ok-Some.kept) (MayHaveNext archive.site archive.history bodies) (appended.ensures.any_moment bodies s)
    (may_have_next archive.site c.in-Ok-Some.kept bodies e h archive.history is c.keeps_history.ensures (subst (IsLastKept archive.history) c.in-Ok-Some.field-0-is c.in-Ok-Some.ensures) are)
