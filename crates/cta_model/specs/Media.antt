-- Media: when a medium is that of a tape, and what it tells of its records is true.
use Rattle.std.specs.Prelude.{ℕ, ◌-◌, ◌≡◌, ◌≤◌, length, Some, IfSome, slice_get}
use Rattle.blob.specs.Records.{MediumView, TapeRecords}
use Rattle.cta_model.specs.declared.states.Place.{Place}
use Rattle.cta_model.specs.History.{History}
use Rattle.cta_model.specs.Files.{sum_of}
use Rattle.cta_model.specs.Tapes.{tape_items}
use Rattle.cta_model.specs.Places.{place_of}

-- records are true for a history as those of a tape: at least as many are safe as the tape has items, and each place on the tape names one of the first so many, which has the sum of its file
pub record IsTrueMedium (h : History) (v : ℕ) (t : TapeRecords) : Type 0 where
  pub within : t.safe ≤ length t.records
  pub enough : length (tape_items h v) ≤ t.safe
  pub named : (f c : ℕ) (p : Place) → p.tape ≡ v → place_of h f c ≡ Some p → (1 ≤ p.fseq) × (p.fseq ≤ length (tape_items h v)) × (slice_get t.records (p.fseq - 1) ≡ Some (sum_of h f))

-- a medium is that of the tape v, by its label; and where it tells its records, they are true for a history as those of this tape
pub record IsMediumOf (h : History) (v : ℕ) (m : MediumView) : Type 0 where
  pub label : m.label ≡ v
  pub truth : IfSome m.records (IsTrueMedium h v)
