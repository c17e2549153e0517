-- What a table of tapes and a buffer tell.
use Rattle.std.specs.Prelude.{ℕ, ◌≡◌, ◌≤◌, length, true}
use Rattle.cta_site.specs.declared.site.Site.{Site}
use Rattle.cta_model.specs.History.{History, last_moment}
use Rattle.cta_model.specs.Places.{live_items_on}
use Rattle.cta_model.specs.Buffer.{is_resident}
use Rattle.cta_model.specs.Pins.{is_pinned}
use Rattle.cta_model.specs.Space.{free_space, evictable_size, evicted_for}
use Rattle.cta_model.specs.Legal.{IsLegal, greatest_moment}
use Rattle.part_model.specs.Tapes.{Table, live_in}
use Rattle.part_model.specs.Held.{Held, bytes_of, evictable_in, evicted_for as evicted_in, free_in, is_held, pinned_in}
use Rattle.part_laws.specs.Tapes.{IsTable}
use Rattle.part_laws.specs.Held.{IsHeld}

-- a table that stands for a legal history has as many places on a tape as live copies have
abbrev pub TableCountsLive : Type 0
TableCountsLive = (site : Site) (h : History) (v : Table) (t : ℕ) → IsLegal site h → IsTable site h v → live_in v t ≡ length (live_items_on h t)

-- a buffer that stands for a history tells which files are resident
abbrev pub BufferTellsFiles : Type 0
BufferTellsFiles = (site : Site) (h : History) (v : Held) (f : ℕ) → IsHeld site h v → is_held v f ≡ is_resident h f

-- at a moment t a buffer tells the free and the evictable space, what is evicted for a need, and which resident files are pinned
pub record Tells (site : Site) (h : History) (v : Held) (t : ℕ) : Type 0 where
  pub free : free_in v ≡ free_space site h
  pub evictable : bytes_of (evictable_in v t) ≡ evictable_size site h t
  pub evicted : (need : ℕ) → evicted_in v t need ≡ evicted_for site h t need
  pub pinned : (f : ℕ) → is_resident h f ≡ true → pinned_in v.pins t f ≡ is_pinned site h t f

-- a buffer that stands for a history tells its space and its pins, at each moment from the last on
abbrev pub BufferTells : Type 0
BufferTells = (site : Site) (h : History) (v : Held) (t : ℕ) → IsHeld site h v → last_moment h ≤ t → t ≤ greatest_moment → Tells site h v t
