use Rattle.std.specs.Prelude.{ℕ, ◌≡◌, take, option_to_list, map, List}
use Rattle.cta_model.specs.Newest.{history_in}
use Rattle.mill_history.specs.Paths.{file_paths}
use Rattle.mill_history.specs.Stages.{stages_of}
use Rattle.mill_history.proofs.stages.one_stage.Given as goal

abbrev pub invariant-loop-entry : goal.invariant-loop-entry
invariant-loop-entry l = (stages_of (history_in (take l.entry-index l.entries)) ≡ map {B = ℕ × List (List ℕ)} (λ (n : ℕ). (n, file_paths l.files)) (option_to_list l.found)) × (l.number ≡ l.entry-index)
