-- Where a copy is.
use Rattle.std.specs.Prelude.{Option, Some, None, Bool, false, ◌&&◌, not}
use Rattle.cta_site.specs.declared.site.TapeState.{TapeState}
use Rattle.cta_model.specs.declared.states.Place.{Place}
use Rattle.cta_model.specs.Tapes.{is_broken}
use Rattle.part_model.specs.Tapes.{Table, row_in}

-- whether there is a place, on a tape that is not BROKEN and whose state passes the test
abbrev pub is_on : (TapeState → Bool) → Table → Option Place → Bool
is_on test v None = false
is_on test v (Some p) = not (is_broken (row_in v p.tape).state) && test (row_in v p.tape).state
