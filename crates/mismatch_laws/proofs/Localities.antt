-- Localities are the same without what mismatches have found.
use Rattle.std.proofs.Common.{◌≡◌, ℕ, Bool}
use Rattle.std.specs.List.{list_any}
use Rattle.cta_site.specs.declared.site.Site.{Site}
use Rattle.cta_site.specs.declared.site.TapeState.{TapeState}
use Rattle.cta_model.specs.declared.states.Place.{Place}
use Rattle.cta_model.specs.History.{History}
use Rattle.cta_model.specs.Tapes.{may_be_read, is_disabled}
use Rattle.cta_model.specs.Localities.{has_place_where, locality_by, locality_of}
use Rattle.mismatch_laws.specs.Alike.{history_without_found}
use Rattle.mismatch_laws.proofs.Tapes.{tape_state_same}
use Rattle.mismatch_laws.proofs.Places.{is_taped_same, places_of_same}
use Rattle.mismatch_laws.proofs.Buffer.{is_resident_same}

pub has_place_where_same : (test : (TapeState → Bool)) (site : Site) (h : History) (f : ℕ) → has_place_where test site (history_without_found h) f ≡ has_place_where test site h f
has_place_where_same test site h f = λ z. list_any (λ (p : Place). test (tape_state_same site h p.tape z)) (places_of_same site h f z)

pub locality_of_same : (site : Site) (h : History) (f : ℕ) → locality_of site (history_without_found h) f ≡ locality_of site h f
locality_of_same site h f = λ z. locality_by (is_taped_same site h f z) (has_place_where_same may_be_read site h f z) (is_resident_same h f z) (has_place_where_same is_disabled site h f z)
