-- The table of tapes of a history, and how an entry moves it.
use Rattle.std.specs.Prelude.{ℕ, ◌≡◌, ◌<◌, length}
use Rattle.cta_site.specs.declared.site.Site.{Site}
use Rattle.cta_model.specs.History.{History}
use Rattle.cta_model.specs.Tapes.{tape_state, next_fseq, used_bytes}
use Rattle.cta_model.specs.Places.{place_of}
use Rattle.part_model.specs.declared.space.TapeRow.{TapeRow}
use Rattle.part_model.specs.Tapes.{AreDistinct, Table, place_in, row_in}

-- the row of a tape in a history
abbrev pub row_of : Site → History → ℕ → TapeRow
row_of site h t = record { used = used_bytes h t; next = next_fseq h t; state = tape_state site h t }

-- the table stands for the history
pub record IsTable (site : Site) (h : History) (v : Table) : Type 0 where
  pub rows : (t : ℕ) → t < length site.tapes.items → row_in v t ≡ row_of site h t
  pub places : (f c : ℕ) → place_in v f c ≡ place_of h f c
  pub distinct : AreDistinct v.places
