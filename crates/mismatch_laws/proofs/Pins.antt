-- Pins are the same without what mismatches have found.
use Rattle.std.proofs.Common.{◌≡◌, ℕ}
use Rattle.std.specs.Prelude.{◌++◌}
use Rattle.std.specs.List.{list_any, flat_map}
use Rattle.cta_site.specs.declared.site.Site.{Site}
use Rattle.cta_model.specs.History.{History}
use Rattle.cta_model.specs.Pins.{Pin, is_above, is_pinned, pins_of, repack_pins, stage_pins}
use Rattle.mismatch_laws.specs.Alike.{history_without_found}
use Rattle.mismatch_laws.proofs.Stages.{request_of_same, requests_made_same}
use Rattle.mismatch_laws.proofs.Repacks.{repack_of_same, repacks_made_same}

pub pins_of_same : (site : Site) (h : History) (f : ℕ) → pins_of site (history_without_found h) f ≡ pins_of site h f
pins_of_same site h f = λ z. flat_map (λ id. stage_pins f id (request_of_same site h id z)) (requests_made_same h z)
    ++ flat_map (λ id. repack_pins f id (repack_of_same site h id z)) (repacks_made_same h z)

pub is_pinned_same : (site : Site) (h : History) (t : ℕ) (f : ℕ) → is_pinned site (history_without_found h) t f ≡ is_pinned site h t f
is_pinned_same site h t f = λ z. list_any (λ (p : Pin). is_above t p.until) (pins_of_same site h f z)
