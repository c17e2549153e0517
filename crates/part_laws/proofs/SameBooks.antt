-- Calls of two books that tell the same.
use Rattle.std.proofs.Common.{◌≡◌, ◌∙◌, Bool, true, false, refl, sym, ap}
use Rattle.std.specs.Prelude.{Option, None, option_map, if◌then◌else◌, ◌==◌}
use Rattle.cta_model.specs.Stages.{StageRequest}
use Rattle.cta_model.specs.Repacks.{Repack}
use Rattle.part_model.specs.Repacks.{set_item}
use Rattle.part_laws.specs.BookLaws.{RepackCallsAgree, RequestCallsAgree}
use Rattle.part_laws.proofs.RequestTurns.{removed_is, turned_is, with_files}
use Rattle.part_laws.proofs.RepackTurns.{set_is, with_items}

behind_first : {A : Type 0} (b : Bool) (x o p : Option A) → o ≡ p → (if b then x else o) ≡ (if b then x else p)
behind_first true x o p same = refl
behind_first false x o p same = same

pub request_calls_agree : RequestCallsAgree
request_calls_agree v w same = record {
  added = λ id at files k. behind_first (id == k) _ _ _ (same k);
  turned = λ id turn k. turned_is id k turn v ∙ ap (λ (o : Option StageRequest). if id == k then option_map (with_files turn) o else o) (same k) ∙ sym (turned_is id k turn w);
  removed = λ id k. removed_is id k v ∙ ap (λ (o : Option StageRequest). if id == k then None else o) (same k) ∙ sym (removed_is id k w);
}

pub repack_calls_agree : RepackCallsAgree
repack_calls_agree v w same = record {
  added = λ id tape jobs k. behind_first (id == k) _ _ _ (same k);
  set = λ id f c s k. set_is id k f c s v ∙ ap (λ (o : Option Repack). if id == k then option_map (with_items (set_item f c s)) o else o) (same k) ∙ sym (set_is id k f c s w);
}
