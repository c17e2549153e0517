use Rattle.std.specs.Prelude.{◌≡◌, map, take}
use Rattle.std.specs.List.{range_with_len}
use Rattle.load_mill.specs.Files.{file_path}
use Rattle.mill_history.specs.Stages.{wanted_path}
use Rattle.mill_history.proofs.stages.are_named.Given as goal

abbrev pub invariant-loop-at : goal.invariant-loop-at
invariant-loop-at l = map wanted_path (take l.at l.wanted) ≡ map file_path (range_with_len 0 l.at)
