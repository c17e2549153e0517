-- Where a file may be read from.
use Rattle.std.specs.Prelude.{ℕ, List, [], ◌∷◌, Option, Some, None, Bool, not, map, if◌then◌else◌}
use Rattle.cta_site.specs.declared.site.TapeState.{TapeState}
use Rattle.cta_model.specs.declared.states.Place.{Place}
use Rattle.cta_model.specs.Tapes.{is_broken, may_be_read}
use Rattle.part_model.specs.Tapes.{Table, place_in, row_in}

-- a place where its tape passes the test
abbrev pub place_if : (TapeState → Bool) → Table → Option Place → Option Place
place_if test v None = None
place_if test v (Some p) = if test (row_in v p.tape).state then Some p else None

-- whether a tape is not BROKEN
abbrev pub is_whole : TapeState → Bool
is_whole s = not (is_broken s)

-- the places that there are
abbrev pub somes : List (Option Place) → List Place
somes [] = []
somes (None ∷ ps) = somes ps
somes (Some p ∷ ps) = p ∷ somes ps

-- these, or those where there is none of these
abbrev pub or_else : List Place → List Place → List Place
or_else [] qs = qs
or_else (p ∷ ps) qs = p ∷ ps

-- the places of the copies from 1 to 4 of a file
abbrev pub copies_in : Table → ℕ → List (Option Place)
copies_in v f = place_in v f 1 ∷ place_in v f 2 ∷ place_in v f 3 ∷ place_in v f 4 ∷ []

-- the sources of a file: its places on tapes that may be read, or else those on tapes that are not BROKEN, by copy
abbrev pub sources_in : Table → ℕ → List Place
sources_in v f = or_else (somes (map (place_if may_be_read v) (copies_in v f))) (somes (map (place_if is_whole v) (copies_in v f)))
