-- The file is COMPLETED in the requests that the loop has passed.
use Rattle.std.proofs.Common.{take}
use Rattle.part_model.specs.declared.space.FileEnd.TheVariants as ends
use Rattle.part_model.specs.Requests.{RequestsAgree, finish_all}
use Rattle.part_moves.specs.Waiting.{with_file}
use Rattle.drive_asks.proofs.waiters.complete_all.Given as goal

abbrev pub invariant-loop-id : goal.invariant-loop-id
invariant-loop-id l = RequestsAgree l.requests (finish_all l.at (λ f. ends.Completed) (with_file l.file (take l.id-index l.ids)) l.initial.requests)
