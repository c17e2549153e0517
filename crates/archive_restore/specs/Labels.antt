-- Labels of tapes.
use Rattle.std.specs.Prelude.{◌≡◌, ℕ, List, length, slice_get, Some}
use Rattle.archive_restore.specs.declared.label.Label.{Label}

-- so many labels, each with the number of its place
pub record AreLabels (count : ℕ) (labels : List Label) : Type 0 where
  pub many : length labels ≡ count
  pub each : (v : ℕ) (l : Label) → slice_get labels v ≡ Some l → l.tape ≡ v
