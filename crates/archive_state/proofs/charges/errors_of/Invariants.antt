-- The errors of the charges that the loop has passed.
use Rattle.std.proofs.Common.{◌≡◌, map, take}
use Rattle.cta_model.specs.Stages.{charge_text}
use Rattle.part_model.specs.JobRows.{charges_in}
use Rattle.archive_state.proofs.charges.errors_of.Given as goal

abbrev pub invariant-loop-place : goal.invariant-loop-place
invariant-loop-place l = l.errors.items ≡ map (charge_text l.site) (take l.place (charges_in l.book.value.charges l.job))
