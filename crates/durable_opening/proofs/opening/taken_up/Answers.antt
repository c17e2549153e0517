use Rattle.std.proofs.Common.{◌∙◌, ◌≡◌, true, sym, subst}
use Rattle.cta_journal.specs.Standing.{StandsFor}
use Rattle.std.specs.Prelude.{map}
use Rattle.cta_records.specs.Records.{body_of}
use Rattle.archive_restore.specs.Logs.{IsRightLog}
use Rattle.durable_opening.specs.Closing.{GoesOnByClosing}
use Rattle.durable_opening.specs.Opened.{EndsTakingUp}
use Rattle.durable_opening.proofs.TakenUp.{not_reopened, shared_open, untold_fit}
use Rattle.durable_opening.proofs.opening.taken_up.Goals as goal

pub reopen-requires : goal.reopen-requires
reopen-requires g c = λ log. untold_fit g.M.Told.told c.args.site c.args.media.items log c.requires.media

pub close_mounts-requires-clause-mounts : goal.close_mounts-requires-clause-mounts
close_mounts-requires-clause-mounts g c =
    shared_open g.M.Told.told c.args.site c.in-Ok.logged.archive.history c.args.media.items c.in-Ok.logged.archive.shelf c.in-Ok.mounts.items c.requires.media c.in-Ok.ensures.ok.2

pub returns-then-close_mounts-clause-rest : goal.returns-then-close_mounts-clause-rest
returns-then-close_mounts-clause-rest g c =
    let yes : c.close_mounts.result ≡ true = search c.if-close_mounts.true in
    (c.close_mounts.ensures.open yes ∙ c.in-Ok.ensures.ok.1, c.close_mounts.ensures.done yes)

pub returns-then-close_mounts-clause-log : goal.returns-then-close_mounts-clause-log
returns-then-close_mounts-clause-log g c = λ file told.
    let K = g.K.Disk in
    let old = c.in-Ok.logged in
    let new = c.close_mounts.new.logged in
    let begun = c.in-Ok.ensures.begun file told in
    let kept = c.close_mounts.ensures.kept in
    record {
      log = begun.0;
      found = begun.1;
      right = subst (λ s. IsRightLog s begun.0) (sym (kept.0 ∙ c.in-Ok.ensures.ok.0)) begun.2;
      history = subst (λ h. GoesOnByClosing new.archive.site h new.archive.history) begun.3 (subst (λ s. GoesOnByClosing s old.archive.history new.archive.history) (sym kept.0) kept.1);
      begun = subst (λ j. StandsFor K.content K.may_leave j (map body_of begun.0)) (sym c.close_mounts.ensures.first) begun.4;
    }

pub returns-in-Err-clause-cause : goal.returns-in-Err-clause-cause
returns-in-Err-clause-cause g c =
    let K = g.K.Disk in
    subst (λ s. EndsTakingUp s c.args.site (K.content c.args.disk) (K.fault_count c.args.disk) (K.fault_count c.in-Err.disk)) (sym c.status_of.ensures)
    (not_reopened c.args.site c.in-Err.error (K.content c.args.disk) (K.fault_count c.args.disk) (K.fault_count c.in-Err.disk) (λ file told. c.in-Err.ensures.wrong file told) c.in-Err.ensures.fault)
