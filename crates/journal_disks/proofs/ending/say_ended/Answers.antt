use Rattle.std.proofs.Common.{◌≡◌, sym, subst, rules, arith, Bool, true, false, is_ok}
use Rattle.std.proofs.lemmas.Grind.{common_steps}
use Rattle.journal_disks.specs.Folders.{IsSaid}
use Rattle.journal_disks.proofs.Calls.{mark_failed, said}
use Rattle.journal_disks.proofs.ending.say_ended.Goals as goal

pub returns-in_err-mark : goal.returns-in_err-mark
returns-in_err-mark g c =
    let done = g.F.JournalFolder.done in
    let o = done c.args.folder.now in
    let err : is_ok c.from_residual-in_err-mark.result ≡ false = first_of (search rules, grind (arith, common_steps)) in
    subst (λ (b : Bool). IsSaid c.args.is_clean o (done c.mark.new.self) b) (sym err) (mark_failed o (done c.sync_file.new.self) (done c.mark.new.self) o c.args.is_clean c.if-is_clean.true c.in_ok-sync_file.ensures c.in_err-mark.ensures)

pub returns-then-is_clean : goal.returns-then-is_clean
returns-then-is_clean g c =
    let done = g.F.JournalFolder.done in
    said (done c.args.folder.now) (done c.sync_file.new.self) (done c.mark.new.self) (done c.sync_names.new.self) c.args.is_clean (is_ok c.sync_names.result) c.if-is_clean.true c.in_ok-sync_file.ensures c.in_ok-mark.ensures c.sync_names.ensures
