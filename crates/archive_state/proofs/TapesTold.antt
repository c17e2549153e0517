-- What the parts tell of tapes and of repacks.
use Rattle.std.proofs.Common.{◌≡◌, ◌∙◌, ℕ, List, [], ◌∷◌, refl, sym, ap, length}
use Rattle.std.specs.Prelude.{Option, Some, None, Result, Ok, Err, IfOk, map, option_map}
use Rattle.cta_site.specs.declared.site.Site.{Site}
use Rattle.cta_site.specs.Listed.{rows}
use Rattle.cta_site.specs.Lookups.{vid_of}
use Rattle.cta_model.specs.declared.reports.RepackInfo.{RepackInfo}
use Rattle.cta_model.specs.declared.reports.RepackItem.{RepackItem}
use Rattle.cta_model.specs.declared.states.RepackCopy.{RepackCopy}
use Rattle.cta_model.specs.Files.{path_of}
use Rattle.cta_model.specs.History.{History}
use Rattle.cta_model.specs.Legal.{IsLegal}
use Rattle.cta_model.specs.Places.{live_items_on}
use Rattle.cta_model.specs.Repacks.{Repack, is_repack_live, repack_of}
use Rattle.cta_model.specs.Reports.{repack_item, repack_report}
use Rattle.part_model.specs.Repacks.{is_live_in}
use Rattle.part_model.specs.Tapes.{live_in}
use Rattle.repack_book.specs.NamedRepacks.{KeptRepack, RepackNames, kept_in, names_of, repacks_of}
use Rattle.repack_book.specs.Reports.{bare_info, info_in, items_told, repack_told}
use Rattle.repack_book.proofs.Books.{repack_is}
use Rattle.part_laws.proofs.Count.{live_is}
use Rattle.part_laws.proofs.RepackCalls.{repacks_tell_live}
use Rattle.archive_parts.specs.PartsKept.{ArePartsKept, names_of_repack}
use Rattle.archive_parts.specs.declared.parts.ArchiveParts.{ArchiveParts}

-- ---- tapes

-- how many copies have their place on a tape
pub copies_now : (site : Site) (h : History) (p : ArchiveParts) (v : ℕ) → IsLegal site h → ArePartsKept site h p → live_in p.tapes.value v ≡ length (live_items_on h v)
copies_now site h p v legal kept = live_is site h p.tapes.value v legal kept.stand.space.tapes

-- ---- repacks

-- whether a repack of a tape is live
pub repack_live_now : (site : Site) (h : History) (p : ArchiveParts) (v : ℕ) → ArePartsKept site h p → is_live_in (repacks_of p.repacks) v ≡ is_repack_live site h v
repack_live_now site h p v kept = repacks_tell_live site h (repacks_of p.repacks) v kept.stand.space.repacks

-- items are told with the paths of their files
items_are : (h : History) (is : List RepackCopy) → items_told is (map (λ (i : RepackCopy). path_of h i.file) is) ≡ map (repack_item h) is
items_are h [] = refl
items_are h (i ∷ is) = ap (λ (xs : List RepackItem). repack_item h i ∷ xs) (items_are h is)

abbrev report_with : ℕ → List ℕ → List RepackItem → RepackInfo
report_with id vid items = record { id = id; vid = vid; items = rows items }

-- what is told of a kept repack that has these names
told_is : (site : Site) (h : History) (id : ℕ) (k : KeptRepack) → names_of k ≡ names_of_repack site h k.repack → repack_told id k ≡ repack_report site h id k.repack
told_is site h id k named =
    ap (λ (n : RepackNames). report_with id n.vid (items_told k.repack.items n.paths)) named
    ∙ ap (report_with id (vid_of site k.repack.tape)) (items_are h k.repack.items)

info_is : (site : Site) (h : History) (id : ℕ) (k : Option KeptRepack) (r : Option Repack) → option_map (λ (x : KeptRepack). x.repack) k ≡ r → option_map names_of k ≡ option_map (names_of_repack site h) r
    → option_map (repack_told id) k ≡ option_map (repack_report site h id) r
info_is site h id None None is named = refl
info_is site h id None (Some r) is named = absurd (cc)
info_is site h id (Some k) None is named = absurd (cc)
info_is site h id (Some k) (Some r) is named =
    let same : k.repack ≡ r = cc in
    let names : names_of k ≡ names_of_repack site h r = cc in
    ap (λ (i : RepackInfo). Some i) (told_is site h id k (names ∙ ap (names_of_repack site h) (sym same)) ∙ ap (repack_report site h id) same)

-- what is told of the repack of a number
pub repack_now : (site : Site) (h : History) (p : ArchiveParts) (id : ℕ) → ArePartsKept site h p → info_in p.repacks id ≡ option_map (repack_report site h id) (repack_of site h id)
repack_now site h p id kept =
    info_is site h id (kept_in p.repacks id) (repack_of site h id) (sym (repack_is p.repacks id) ∙ kept.stand.space.repacks id) (kept.named id)

pub repack_ok : {E : Type 0} (r : Result (Option RepackInfo) E) (x y : Option RepackInfo) → IfOk r (λ o. option_map bare_info o ≡ x) → x ≡ y → IfOk r (λ o. option_map bare_info o ≡ y)
repack_ok (Ok o) x y is same = is ∙ same
repack_ok (Err e) x y is same = tt
