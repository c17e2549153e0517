-- The sessions that the loop has made are free.
use Rattle.std.proofs.Common.{◌≡◌}
use Rattle.archive_opening.proofs.Numbered.{Numbered}
use Rattle.replay.specs.Desk.{free_memo}
use Rattle.replay.proofs.desk.sessions_of.Given as goal

abbrev pub invariant-loop-drive : goal.invariant-loop-drive
invariant-loop-drive g l = Numbered (λ d m. m ≡ free_memo d) l.drive l.sessions.items
