use Rattle.std.specs.Prelude.{◌≡◌, map, take}
use Rattle.std.specs.List.{range_with_len}
use Rattle.mill_history.specs.Reports.{staged_file, completed_file}
use Rattle.mill_history.proofs.reports.are_completed.Given as goal

abbrev pub invariant-loop-at : goal.invariant-loop-at
invariant-loop-at l = map staged_file (take l.at l.infos) ≡ map completed_file (range_with_len 0 l.at)
