-- The files that the loop has passed have failed, and there is an error for each of the others.
use Rattle.std.proofs.Common.{◌≡◌, ◌+◌, length, take}
use Rattle.std.specs.Prelude.{codes}
use Rattle.part_model.specs.declared.space.FileEnd.TheVariants as ends
use Rattle.part_model.specs.Requests.{RequestsAgree, finish_all}
use Rattle.part_laws.specs.BookCalls.{asked_by}
use Rattle.part_moves.specs.Texts.{AreAll}
use Rattle.caller_asks.proofs.statuses.fail_all.Given as goal

abbrev pub invariant-loop-file : goal.invariant-loop-file
invariant-loop-file l =
    (length l.texts.items + l.file-index ≡ length l.files) × AreAll (codes "no tape is left") l.texts.items
    × RequestsAgree l.requests (finish_all l.at (λ f. ends.Failed (codes "no tape is left")) (asked_by l.id (take l.file-index l.files)) l.initial.requests)
