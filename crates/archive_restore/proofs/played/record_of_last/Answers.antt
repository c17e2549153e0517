use Rattle.std.proofs.Common.{ap, ◌∙◌}
use Rattle.cta_model.specs.declared.entries.Entry.{Entry}
use Rattle.cta_model.specs.declared.entries.Actor.{Actor}
use Rattle.archive_restore.specs.Same.{answer_kept}
use Rattle.archive_restore.proofs.Last.{last_is}
use Rattle.archive_restore.proofs.played.record_of_last.Goals as goal

pub returns-in_ok-copy_of-in-Some : goal.returns-in_ok-copy_of-in-Some
returns-in_ok-copy_of-in-Some c = λ e h is.
    c.answer_record.ensures
    ∙ (ap (λ (who : Actor). answer_kept c.in-Some.entry.now.at who c.args.answer) c.in_ok-copy_of-in-Some.ensures
    ∙ ap (λ (x : Entry). answer_kept x.at x.actor c.args.answer) (last_is c.args.entries.now c.in-Some.entry.now e h c.in-Some.ensures.value is))
