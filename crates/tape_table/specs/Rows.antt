-- The map that places are kept in, and the places that it tells.
use Rattle.std.specs.Prelude.{ℕ, ◌≡◌, ◌<◌, List, None, Bool, ◌==◌, ◌&&◌}
use Rattle.std.specs.Map.{lookup}
use Rattle.cta_site.specs.declared.site.Tape.{Tape}
use Rattle.cta_model.specs.declared.states.Place.{Place}
use Rattle.part_model.specs.declared.space.Placed.{Placed}
use Rattle.part_model.specs.declared.space.TapeRow.{TapeRow}

-- a copy of a file, as a key
abbrev pub CopyKey : Type 0
CopyKey = ℕ × ℕ

-- whether two keys are the same
abbrev pub same_copy : CopyKey → CopyKey → Bool
same_copy a b = a.0 == b.0 && a.1 == b.1

-- an entry as a copy with its place
abbrev pub placed_row : CopyKey × Place → Placed
placed_row e = record { file = e.0.0; copy = e.0.1; place = e.1 }

-- no copy above 255 has a place
abbrev pub AreCopies : List (CopyKey × Place) → Type 0
AreCopies es = (f c : ℕ) → 255 < c → lookup (same_copy (f, c)) es ≡ None

-- a tape on which nothing was written
abbrev pub fresh_row : Tape → TapeRow
fresh_row t = record { used = 0; next = 1; state = t.state }
