-- A row is the same, but for what a mismatch has found, where its answer is.
use Rattle.std.proofs.Common.{◌≡◌, ◌∙◌, ℕ, List, refl, sym, ap}
use Rattle.std.specs.Prelude.{Option, Some, None, option_map, slice_get}
use Rattle.blob.specs.declared.sum.Sum256.{Sum256}
use Rattle.cta_model.specs.declared.asks.Item.{Item}
use Rattle.drive_session.specs.declared.reports.Done.{Done}
use Rattle.drive_session.specs.declared.reports.Done.TheVariants as done
use Rattle.drive_session.specs.Table.{Free, Held, HeldMount, Leaving, Phase, Reading, Ready, Row, Writing, reading_row, row_of, writing_row}
use Rattle.mismatch_laws.specs.Alike.{ask_without_found}
use Rattle.run_laws.proofs.Due.{heard_alone}

-- a row whose ask is without what was found
abbrev pub row_without_found : Row → Row
row_without_found r = record r { ask = option_map ask_without_found r.ask }

writing_same : (x : HeldMount) (items : List Item) (at : ℕ) (o : Option Item) (found wanted : Sum256)
    → option_map row_without_found (writing_row x items at o (Some (done.Mismatch found wanted))) ≡ option_map row_without_found (writing_row x items at o (heard_alone (Some (done.Mismatch found wanted))))
writing_same x items at None found wanted = refl
writing_same x items at (Some i) found wanted = refl

reading_same : (x : HeldMount) (items : List Item) (at : ℕ) (o : Option Item) (found wanted : Sum256)
    → option_map row_without_found (reading_row x items at o (Some (done.Mismatch found wanted))) ≡ option_map row_without_found (reading_row x items at o (heard_alone (Some (done.Mismatch found wanted))))
reading_same x items at None found wanted = refl
reading_same x items at (Some i) found wanted = refl

mismatch_same : (d : ℕ) (p : Phase) (found wanted : Sum256)
    → option_map row_without_found (row_of d p (Some (done.Mismatch found wanted))) ≡ option_map row_without_found (row_of d p (heard_alone (Some (done.Mismatch found wanted))))
mismatch_same d Free found wanted = refl
mismatch_same d (Held x) found wanted = refl
mismatch_same d (Ready x) found wanted = refl
mismatch_same d (Writing x items at) found wanted = writing_same x items at (slice_get items at) found wanted
mismatch_same d (Reading x items at) found wanted = reading_same x items at (slice_get items at) found wanted
mismatch_same d (Leaving x) found wanted = refl

row_alone : (d : ℕ) (p : Phase) (e : Option Done) → option_map row_without_found (row_of d p e) ≡ option_map row_without_found (row_of d p (heard_alone e))
row_alone d p (Some (done.Mismatch found wanted)) = mismatch_same d p found wanted
row_alone d p _ = refl

-- rows for answers that are the same but for sums
pub rows_alike : (d : ℕ) (p : Phase) (e f : Option Done) → heard_alone e ≡ heard_alone f → option_map row_without_found (row_of d p e) ≡ option_map row_without_found (row_of d p f)
rows_alike d p e f same = row_alone d p e ∙ ap (λ x. option_map row_without_found (row_of d p x)) same ∙ sym (row_alone d p f)
