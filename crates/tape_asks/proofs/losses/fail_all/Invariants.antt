-- The files have failed in the requests that the loop has passed, and there is an error for each of the others.
use Rattle.std.proofs.Common.{◌≡◌, ◌+◌, length, take}
use Rattle.std.specs.Prelude.{codes}
use Rattle.part_model.specs.declared.space.FileEnd.TheVariants as ends
use Rattle.part_model.specs.Requests.{RequestsAgree, finish_all}
use Rattle.part_moves.specs.Texts.{AreAll}
use Rattle.tape_asks.proofs.losses.fail_all.Given as goal

abbrev pub invariant-loop-pair : goal.invariant-loop-pair
invariant-loop-pair l = (length l.texts.items + l.pair-index ≡ length l.pairs) × AreAll (codes "no tape is left") l.texts.items × RequestsAgree l.requests (finish_all l.at (λ f. ends.Failed (codes "no tape is left")) (take l.pair-index l.pairs) l.initial.requests)
