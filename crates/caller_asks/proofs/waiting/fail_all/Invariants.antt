-- The file has failed in the requests that the loop has passed, and there is an error for each of the others.
use Rattle.std.proofs.Common.{◌≡◌, ◌+◌, length, take}
use Rattle.std.specs.Prelude.{codes}
use Rattle.part_model.specs.declared.space.FileEnd.TheVariants as ends
use Rattle.part_model.specs.Requests.{RequestsAgree, finish_all}
use Rattle.part_moves.specs.Texts.{AreAll}
use Rattle.part_moves.specs.Waiting.{with_file}
use Rattle.caller_asks.proofs.waiting.fail_all.Given as goal

abbrev pub invariant-loop-id : goal.invariant-loop-id
invariant-loop-id l = (length l.texts.items + l.id-index ≡ length l.ids) × AreAll (codes "deleted") l.texts.items × RequestsAgree l.requests (finish_all l.at (λ f. ends.Failed (codes "deleted")) (with_file l.file (take l.id-index l.ids)) l.initial.requests)
