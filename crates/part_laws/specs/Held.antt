-- The buffer of a history.
use Rattle.std.specs.Prelude.{ℕ, ◌≡◌, ◌≤◌, ◌∷◌, Bool, true, not, ◌&&◌}
use Rattle.cta_site.specs.declared.site.Site.{Site}
use Rattle.cta_model.specs.declared.entries.Entry.{Entry}
use Rattle.cta_model.specs.History.{History, last_moment}
use Rattle.cta_model.specs.Buffer.{is_resident}
use Rattle.cta_model.specs.Space.{bytes_to_read}
use Rattle.cta_model.specs.Legal.{greatest_moment}
use Rattle.cta_laws.specs.Pins.{pins_by, repack_pins_by}
use Rattle.part_model.specs.Held.{Held, pins_in}
use Rattle.part_laws.specs.Buffer.{residents}

-- the buffer stands for the history; its pins are spoken of at moments from the last on alone, since a pin that has ended may be dropped,
-- and at moments that there are, since a pin of a repack has no end
pub record IsHeld (site : Site) (h : History) (v : Held) : Type 0 where
  pub size : v.size ≡ site.limits.buffer
  pub files : v.files ≡ residents site h
  pub aside : v.aside ≡ bytes_to_read h
  pub pins : (t f id : ℕ) → is_resident h f ≡ true → last_moment h ≤ t → t ≤ greatest_moment → pins_in v.pins t f id ≡ pins_by site h t f id

-- whether a repack that pinned the file before the entry e pins it no more behind it
abbrev pub is_unpinned : Site → History → Entry → ℕ → ℕ → Bool
is_unpinned site h e f id = repack_pins_by site h f id && not (repack_pins_by site (e ∷ h) f id)
