-- The files of the pairs that the loop has passed were started.
use Rattle.std.proofs.Common.{take}
use Rattle.part_model.specs.Requests.{RequestsAgree, start_all}
use Rattle.drive_asks.proofs.waiters.start_all.Given as goal

abbrev pub invariant-loop-pair : goal.invariant-loop-pair
invariant-loop-pair l = RequestsAgree l.requests (start_all l.at (take l.pair-index l.pairs) l.initial.requests)
