-- The candidates of the keys that the loop has passed were added.
use Rattle.std.proofs.Common.{◌≡◌, ◌++◌}
use Rattle.std.specs.List.{flat_map, range_with_len}
use Rattle.part_laws.specs.Choices.{candidate_told}
use Rattle.part_answers.proofs.candidates.add_candidates.Given as goal

abbrev pub invariant-loop-key : goal.invariant-loop-key
invariant-loop-key l = l.list.items ≡ l.initial.list.items ++ flat_map (candidate_told l.site l.seen l.at l.drive l.direction) (range_with_len 0 l.key)
