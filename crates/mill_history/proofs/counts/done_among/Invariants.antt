use Rattle.std.specs.Prelude.{ℕ, ◌≡◌, ◌+◌, ◌≤◌, List, length, drop, filter, zip}
use Rattle.mill_history.specs.Counts.{is_done_of}
use Rattle.mill_history.specs.Marks.{AreMarks}
use Rattle.mill_history.proofs.counts.done_among.Given as goal

abbrev pub invariant-loop-at : goal.invariant-loop-at
invariant-loop-at l =
    ((files : List ℕ) → AreMarks l.marks files → l.count + length (filter (is_done_of files) (zip (drop l.at l.items) (drop l.at l.fates))) ≡ length (filter (is_done_of files) (zip l.items l.fates)))
    × (l.count ≤ l.at)
