-- The best is the first of the candidates that the loop has passed.
use Rattle.std.proofs.Common.{◌≡◌, drop}
use Rattle.cta_model.specs.Choice as said
use Rattle.part_answers.proofs.choice.first_of.Given as goal

abbrev pub invariant-loop-at : goal.invariant-loop-at
invariant-loop-at l = l.best ≡ said.first_of (drop l.at l.list)
