use Rattle.std.proofs.Common.{◌≡◌, ◌+◌, arith, subst, sym}
use Rattle.archive_opening.proofs.Numbered.{Numbered, numbered_more, numbered_none}
use Rattle.replay.specs.Desk.{free_memo}
use Rattle.replay.proofs.Benches.{free_sessions}
use Rattle.replay.proofs.desk.sessions_of.Goals as goal

pub loop-drive-init : goal.loop-drive-init
loop-drive-init g c = subst (Numbered (λ d m. m ≡ free_memo d) 0) (sym c.new-sessions.ensures.items) (numbered_none (λ d m. m ≡ free_memo d))

pub loop-drive-preserved : goal.loop-drive-preserved
loop-drive-preserved g c =
    subst (Numbered (λ d m. m ≡ free_memo d) (c.loop-drive.drive + 1)) (sym c.in_ok-push.ensures.items)
    (numbered_more (λ d m. m ≡ free_memo d) c.loop-drive.drive c.loop-drive.sessions.items c.new.result c.loop-drive.invariant c.new.ensures)

pub returns : goal.returns
returns g c =
    let all : c.loop-drive.drive ≡ c.args.count = omega (arith, c.loop-drive-test.false, c.loop-drive.auto.drive-end) in
    free_sessions c.args.count c.loop-drive.sessions.items (subst (λ n. Numbered (λ d m. m ≡ free_memo d) n c.loop-drive.sessions.items) all c.loop-drive.invariant)
