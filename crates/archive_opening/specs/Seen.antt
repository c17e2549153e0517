-- What is seen of a source, at a moment.
use Rattle.std.specs.Prelude.{ℕ, List, Option}

-- a source: what it still gives, where it tells, and its count of faults
pub record SourceView : Type 0 where
  pub left : Option (List ℕ)
  pub faults : ℕ

-- a source by its parts
abbrev pub source_view : Option (List ℕ) → ℕ → SourceView
source_view left faults = record { left = left; faults = faults }
