-- What is told of one more path.
use Rattle.std.specs.Prelude.{◌≡◌, ℕ, List, [], ◌∷◌, ◌++◌}
use Rattle.std.proofs.lemmas.List.{map-append}
use Rattle.cta_site.specs.declared.site.Site.{Site}
use Rattle.cta_model.specs.History.{History}
use Rattle.cta_model.specs.Files.{live_file}
use Rattle.cta_model.specs.Reports.{place_info, place_infos}

pub place_infos-next : (site : Site) (h : History) (ps : List (List ℕ)) (p : List ℕ) → place_infos site h (ps ++ p ∷ []) ≡ place_infos site h ps ++ place_info site h p (live_file h p) ∷ []
place_infos-next site h ps p = map-append (λ path. place_info site h path (live_file h path)) ps (p ∷ [])

pub ruleset path_by_path = (place_infos-next)
