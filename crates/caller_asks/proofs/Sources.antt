-- The sources of a file, as the table of tapes tells them.
use Rattle.std.proofs.Common.{◌≡◌, ◌∙◌, ℕ, zero, suc, ◌≤◌, ◌<◌, List, [], ◌∷◌, Bool, true, false, not, refl, sym, ap, arith}
use Rattle.std.specs.Prelude.{Option, Some, None, is_some, if◌then◌else◌, filter, map, slice_get}
use Rattle.std.specs.List.{cons_option, filter_map, range_with_len}
use Rattle.cta_site.specs.declared.site.Site.{Site}
use Rattle.cta_site.specs.declared.site.TapeState.{TapeState}
use Rattle.cta_site.specs.declared.site.TapeState.TheVariants as state
use Rattle.cta_model.specs.declared.states.Place.{Place}
use Rattle.cta_model.specs.Files.{copies_of_file}
use Rattle.cta_model.specs.History.{History, is_empty}
use Rattle.cta_model.specs.Legal.{IsLegal}
use Rattle.cta_model.specs.Places.{all_places, place_of, places_of}
use Rattle.cta_model.specs.Queues as model
use Rattle.cta_model.specs.Queues.{sources_of}
use Rattle.cta_model.specs.Tapes.{is_broken, may_be_read, tape_state}
use Rattle.cta_laws.specs.Places.{PlacesAreOfCopies, PlacesAreOnSite}
use Rattle.part_model.specs.declared.space.TapeRow.{TapeRow}
use Rattle.part_model.specs.Tapes.{Table, place_in, row_in}
use Rattle.part_laws.specs.Tapes.{IsTable}
use Rattle.tape_table.specs.Sources.{copies_in, is_whole, or_else, place_if, somes, sources_in}
use Rattle.caller_asks.specs.Wanted.{has_source}
use Rattle.part_moves.proofs.Sources as told
use Rattle.part_moves.proofs.Sources.{sources_are}

-- a file has a source exactly where it has a place
sources_empty : (site : Site) (h : History) (f : ℕ) → is_empty (sources_of site h f) ≡ is_empty (places_of site h f)
sources_empty site h f = by (filter (λ (p : Place). may_be_read (tape_state site h p.tape)) (places_of site h f)) refl
  where
    none_of : (ps : List Place) → is_empty ps ≡ true → is_empty (filter (λ (p : Place). may_be_read (tape_state site h p.tape)) ps) ≡ true
    none_of [] e = refl
    none_of (p ∷ ps) e = absurd (cc)

    some : (p : Place) (ps qs : List Place) → filter (λ (p : Place). may_be_read (tape_state site h p.tape)) qs ≡ p ∷ ps → false ≡ is_empty qs
    some p ps [] e = absurd (cc)
    some p ps (q ∷ qs) e = refl

    by : (ps : List Place) → filter (λ (p : Place). may_be_read (tape_state site h p.tape)) (places_of site h f) ≡ ps → is_empty (model.or_else ps (places_of site h f)) ≡ is_empty (places_of site h f)
    by [] e = refl
    by (p ∷ ps) e = some p ps (places_of site h f) e

first_there : (ps : List Place) → is_some (slice_get ps 0) ≡ not (is_empty ps)
first_there [] = refl
first_there (p ∷ ps) = refl

pub source_is : (of_copies : PlacesAreOfCopies) (on_site : PlacesAreOnSite) (site : Site) (h : History) (v : Table) (f : ℕ) → IsLegal site h → IsTable site h v → copies_of_file site h f ≤ 4 → has_source v f ≡ not (is_empty (places_of site h f))
source_is of_copies on_site site h v f legal is few =
    ap (λ (ps : List Place). is_some (slice_get ps 0)) (sym (sources_are of_copies on_site site h v f legal is few))
    ∙ first_there (sources_of site h f) ∙ ap not (sources_empty site h f)

-- ---- a source is a place of the table

pub source_placed : (v : Table) (f : ℕ) (p : Place) → slice_get (sources_in v f) 0 ≡ Some p → (c : ℕ) × (place_in v f c ≡ Some p)
source_placed v f p at = told.source_placed v f 0 p at
