-- Files by how they stand.
use Rattle.std.specs.Prelude.{ℕ, ◌≡◌, List, is_some, filter}
use Rattle.part_model.specs.Held.{Held, is_held}
use Rattle.part_model.specs.JobBook.{Book}
use Rattle.part_model.specs.Tapes.{Table}
use Rattle.caller_asks.specs.declared.sorting.Sorted.{Sorted}
use Rattle.caller_asks.specs.Wanted.{bears_by, lost_by, starts_by}

-- these files are sorted by how they stand
pub record IsSorted (held : Held) (v : Table) (b : Book) (fs : List ℕ) (s : Sorted) : Type 0 where
  pub here : s.here.items ≡ filter (is_held held) fs
  pub lost : s.lost.items ≡ filter (lost_by held v) fs
  pub started : s.started.items ≡ filter (starts_by held v b) fs
  pub recalled : s.recalled.items ≡ filter (λ f. is_some (b.recall f)) fs
  pub bearing : s.bearing.items ≡ filter (bears_by held v b) fs
