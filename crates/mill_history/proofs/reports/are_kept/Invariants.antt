use Rattle.std.specs.Prelude.{◌≡◌, map, take}
use Rattle.std.specs.List.{range_with_len}
use Rattle.mill_history.specs.Reports.{placed_file, kept_file}
use Rattle.mill_history.proofs.reports.are_kept.Given as goal

abbrev pub invariant-loop-at : goal.invariant-loop-at
invariant-loop-at l = map placed_file (take l.at l.infos) ≡ map kept_file (range_with_len 0 l.at)
