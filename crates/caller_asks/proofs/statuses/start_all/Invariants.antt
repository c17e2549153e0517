-- The files that the loop has passed are STARTED.
use Rattle.std.proofs.Common.{take}
use Rattle.part_model.specs.Requests.{RequestsAgree, start_all}
use Rattle.part_laws.specs.BookCalls.{asked_by}
use Rattle.caller_asks.proofs.statuses.start_all.Given as goal

abbrev pub invariant-loop-file : goal.invariant-loop-file
invariant-loop-file l = RequestsAgree l.requests (start_all l.at (asked_by l.id (take l.file-index l.files)) l.initial.requests)
