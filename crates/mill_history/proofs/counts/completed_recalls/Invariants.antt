use Rattle.std.specs.Prelude.{ℕ, ◌≡◌, ◌≤◌, List, length, take}
use Rattle.cta_model.specs.Newest.{history_in}
use Rattle.mill_history.specs.Counts.{completed_recalls}
use Rattle.mill_history.specs.Marks.{AreMarks}
use Rattle.mill_history.proofs.counts.completed_recalls.Given as goal

abbrev pub invariant-loop-entry : goal.invariant-loop-entry
invariant-loop-entry l =
    ((files : List ℕ) → AreMarks l.marks files → l.count ≡ length (completed_recalls files (history_in (take l.entry-index l.entries))))
    × (l.count ≤ l.entry-index)
