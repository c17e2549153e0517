-- The paths of the files before the loop's place.
use Rattle.std.specs.Prelude.{◌≡◌, map}
use Rattle.std.specs.List.{range_with_len}
use Rattle.load_mill.specs.Files.{file_path}
use Rattle.mill_crew.proofs.lists.file_paths.Given as goal

abbrev pub invariant-loop-at : goal.invariant-loop-at
invariant-loop-at l = l.paths.items ≡ map file_path (range_with_len 0 l.at)
