-- The files that the loop has passed are COMPLETED.
use Rattle.std.proofs.Common.{take}
use Rattle.part_model.specs.declared.space.FileEnd.TheVariants as ends
use Rattle.part_model.specs.Requests.{RequestsAgree, finish_all}
use Rattle.part_laws.specs.BookCalls.{asked_by}
use Rattle.caller_asks.proofs.statuses.complete_all.Given as goal

abbrev pub invariant-loop-file : goal.invariant-loop-file
invariant-loop-file l = RequestsAgree l.requests (finish_all l.at (λ f. ends.Completed) (asked_by l.id (take l.file-index l.files)) l.initial.requests)
