use Rattle.std.proofs.Common.{◌≡◌, ◌∙◌, ap, sym, subst, rules, arith, Bool, true, false, is_ok}
use Rattle.std.specs.Prelude.{Some}
use Rattle.std.proofs.lemmas.Grind.{common_steps}
use Rattle.journal_disks.specs.Folders.{Looked, after_call, IsMadeReady, IsRenewed}
use Rattle.journal_disks.proofs.Calls.{unmark_failed, unmarked, not_renewed, renewed}
use Rattle.journal_disks.proofs.ending.make_ready.Goals as goal

pub returns-in_err-unmark : goal.returns-in_err-unmark
returns-in_err-unmark g c =
    let done = g.F.JournalFolder.done in
    let o = done c.args.folder.now in
    let look = c.in_ok-is_marked.ensures ∙ ap (λ (b : Bool). after_call (Looked (Some b)) o) c.if-branch.true in
    let err : is_ok c.from_residual-in_err-unmark.result ≡ false = first_of (search rules, grind (arith, common_steps)) in
    subst (λ (b : Bool). IsMadeReady o (done c.unmark.new.self) b) (sym err) (unmark_failed o (done c.is_marked.new.self) (done c.unmark.new.self) o look c.in_err-unmark.ensures)

pub returns-then-branch : goal.returns-then-branch
returns-then-branch g c =
    let done = g.F.JournalFolder.done in
    let o = done c.args.folder.now in
    let look = c.in_ok-is_marked.ensures ∙ ap (λ (b : Bool). after_call (Looked (Some b)) o) c.if-branch.true in
    unmarked o (done c.is_marked.new.self) (done c.unmark.new.self) (done c.sync_names.new.self) (is_ok c.sync_names.result) look c.in_ok-unmark.ensures c.sync_names.ensures

pub returns-then-is_err : goal.returns-then-is_err
returns-then-is_err g c =
    let done = g.F.JournalFolder.done in
    let o = done c.args.folder.now in
    let look = c.in_ok-is_marked.ensures ∙ ap (λ (b : Bool). after_call (Looked (Some b)) o) c.if-branch.false in
    let err : is_ok c.renew.result ≡ false = first_of (search rules, grind (arith, common_steps)) in
    not_renewed o (done c.is_marked.new.self) (done c.renew.new.folder) (done c.drop_copy.new.self) look (subst (λ (b : Bool). IsRenewed (done c.is_marked.new.self) (done c.renew.new.folder) b) err c.renew.ensures) c.drop_copy.ensures

pub returns : goal.returns
returns g c =
    let done = g.F.JournalFolder.done in
    let o = done c.args.folder.now in
    let look = c.in_ok-is_marked.ensures ∙ ap (λ (b : Bool). after_call (Looked (Some b)) o) c.if-branch.false in
    let ok : is_ok c.renew.result ≡ true = first_of (search rules, grind (arith, common_steps)) in
    renewed o (done c.is_marked.new.self) (done c.renew.new.folder) (done c.sync_names-2.new.self) (is_ok c.sync_names-2.result) look (subst (λ (b : Bool). IsRenewed (done c.is_marked.new.self) (done c.renew.new.folder) b) ok c.renew.ensures) c.sync_names-2.ensures
