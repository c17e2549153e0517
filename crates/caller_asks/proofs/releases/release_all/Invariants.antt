-- The paths that the loop has passed are released.
use Rattle.std.proofs.Common.{take}
use Rattle.part_model.specs.Requests.{RequestsAgree, release_all}
use Rattle.caller_asks.proofs.releases.release_all.Given as goal

abbrev pub invariant-loop-path : goal.invariant-loop-path
invariant-loop-path l = RequestsAgree l.requests (release_all l.id (take l.path-index l.paths) l.initial.requests)
