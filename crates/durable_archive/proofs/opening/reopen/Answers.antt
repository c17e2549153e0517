use Rattle.std.proofs.Common.{rules, ◌∙◌, ap, sym, subst}
use Rattle.std.specs.Prelude.{map}
use Rattle.std.proofs.lemmas.List.Elements.{recursion_from_All}
use Rattle.cta_journal.specs.Standing.{StandsFor}
use Rattle.cta_records.specs.Records.{KeptFits, body_of}
use Rattle.archive_restore.specs.Logs.{history_of_log}
use Rattle.durable_archive.specs.Journaled.{LogIsHistory}
use Rattle.durable_archive.specs.Opened.{IsExcused, IsRefusedFor}
use Rattle.durable_archive.proofs.Reopening.{comes_back, log_found, opening_excused, opening_refused, restoring_excused, restoring_refused}
use Rattle.durable_archive.proofs.opening.reopen.Goals as goal

pub returns-in-Err-clause-back : goal.returns-in-Err-clause-back
returns-in-Err-clause-back g c = λ file h told keeps low. (
  tt,
  subst IsExcused (sym c.open_error.ensures)
      (opening_excused c.args.site file h c.in-Err.error low c.keeps_rules.ensures.parts.limits.history_to keeps (λ offset is. c.in-Err.ensures.damaged file offset told is)),
)

pub returns-in-Err-clause-wrong : goal.returns-in-Err-clause-wrong
returns-in-Err-clause-wrong g c = λ file told.
    subst (IsRefusedFor c.args.site file) (sym c.open_error.ensures) (opening_refused c.args.site file c.in-Err.error (λ offset is. c.in-Err.ensures.damaged file offset told is))

pub restore-requires : goal.restore-requires
restore-requires g c = c.requires c.in-Ok.opened.1.items

pub new-requires-clause-log : goal.new-requires-clause-log
new-requires-clause-log g c =
    let K = g.K.Disk in
    let journal = c.in-Ok.opened.0 in
    let found = c.in-Ok.opened.1.items in
    let restored = c.in-Ok-restore.ensures.ok in
    subst (λ h. LogIsHistory K.content K.may_leave journal c.in-Ok-restore.archive.site h) (sym restored.history)
    (subst (λ s. LogIsHistory K.content K.may_leave journal s (history_of_log found)) (sym restored.of_site)
    (log_found K.content K.may_leave c.args.site c.args.disk journal found (search rules) (recursion_from_All KeptFits found c.in-Ok.ensures.fits) restored.right c.in-Ok.ensures.untold (λ file told. c.in-Ok.ensures.found file told)))

pub returns-in-Ok-restore-clause-back : goal.returns-in-Ok-restore-clause-back
returns-in-Ok-restore-clause-back g c = λ file h told keeps low.
    let found = c.in-Ok.opened.1.items in
    let restored = c.in-Ok-restore.ensures.ok in
    let back = comes_back c.records_tell_apart.ensures.one c.args.site file h found low (recursion_from_All KeptFits found c.in-Ok.ensures.fits) (c.in-Ok.ensures.found file told).0 keeps in
    (ap (λ l. l.archive.history) c.new.ensures ∙ restored.history ∙ back.1, tt)

pub returns-in-Ok-restore-clause-begun : goal.returns-in-Ok-restore-clause-begun
returns-in-Ok-restore-clause-begun g c = λ file told.
    let K = g.K.Disk in
    let found = c.in-Ok.opened.1.items in
    let both = c.in-Ok.ensures.found file told in
    let restored = c.in-Ok-restore.ensures.ok in
    (found, both.0, restored.right, ap (λ l. l.archive.history) c.new.ensures ∙ restored.history, subst (λ l. StandsFor K.content K.may_leave l.first (map body_of found)) (sym c.new.ensures) both.1)

pub returns-in-Err-restore-clause-back : goal.returns-in-Err-restore-clause-back
returns-in-Err-restore-clause-back g c = λ file h told keeps low.
    let found = c.in-Ok.opened.1.items in
    let back = comes_back c.records_tell_apart.ensures.one c.args.site file h found low (recursion_from_All KeptFits found c.in-Ok.ensures.fits) (c.in-Ok.ensures.found file told).0 keeps in
    (tt, subst IsExcused (sym c.restore_error.ensures) (restoring_excused c.log_is_wrong_once.ensures c.args.site found c.in-Err-restore.error back.0 (λ n is. c.restore.ensures.differs n (search rules))))

pub returns-in-Err-restore-clause-wrong : goal.returns-in-Err-restore-clause-wrong
returns-in-Err-restore-clause-wrong g c = λ file told.
    let found = c.in-Ok.opened.1.items in
    subst (IsRefusedFor c.args.site file) (sym c.restore_error.ensures) (restoring_refused c.args.site file found c.in-Err-restore.error (c.in-Ok.ensures.found file told).0 (λ n is. c.restore.ensures.differs n (search rules)))
