-- Localities: where a file is kept, as the WLCG Tape REST API names it.
use Rattle.std.specs.Prelude.{ℕ, Bool, if◌then◌else◌, ◌&&◌}
use Rattle.std.specs.List.{list_any}
use Rattle.cta_site.specs.declared.site.Site.{Site}
use Rattle.cta_site.specs.declared.site.TapeState.{TapeState}
use Rattle.cta_model.specs.declared.reports.Locality.{Locality}
use Rattle.cta_model.specs.declared.reports.Locality.TheVariants as locality
use Rattle.cta_model.specs.declared.states.Place.{Place}
use Rattle.cta_model.specs.History.{History}
use Rattle.cta_model.specs.Tapes.{tape_state, may_be_read, is_disabled}
use Rattle.cta_model.specs.Places.{places_of, is_taped}
use Rattle.cta_model.specs.Buffer.{is_resident}

-- whether a place of the file is on a tape whose state passes the test
abbrev pub has_place_where : (TapeState → Bool) → Site → History → ℕ → Bool
has_place_where test site h f = list_any (λ (p : Place). test (tape_state site h p.tape)) (places_of site h f)

-- the first line that holds
abbrev pub locality_by : Bool → Bool → Bool → Bool → Locality
locality_by taped readable resident disabled =
    if taped && (readable && resident) then locality.DiskAndTape
    else if taped && readable then locality.Tape
    else if resident then locality.Disk
    else if disabled then locality.Unavailable
    else locality.Lost

-- the locality of a file: whether it is taped, has a place that may be read, is resident, or has a place on a DISABLED tape
abbrev pub locality_of : Site → History → ℕ → Locality
locality_of site h f = locality_by (is_taped site h f) (has_place_where may_be_read site h f) (is_resident h f) (has_place_where is_disabled site h f)
