-- The paths of the items that the loop has passed.
use Rattle.std.proofs.Common.{◌≡◌, take}
use Rattle.std.specs.Prelude.{map}
use Rattle.cta_model.specs.declared.asks.Job.{Job}
use Rattle.cta_model.specs.Files.{path_of}
use Rattle.tape_asks.proofs.names.paths_of.Given as goal

abbrev pub invariant-loop-item : goal.invariant-loop-item
invariant-loop-item l = l.paths.items ≡ map (λ (j : Job). path_of l.history.value j.file) (take l.item-index l.items)
