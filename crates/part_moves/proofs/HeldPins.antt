-- Pins that two buffers tell alike.
use Rattle.std.proofs.Common.{◌≡◌, ◌∙◌, ℕ, List, [], ◌∷◌, Bool, true, false, not, refl, sym, ap}
use Rattle.std.specs.Prelude.{Option, Some, None, if◌then◌else◌, ◌==◌, ◌&&◌}
use Rattle.std.specs.List.{list_any}
use Rattle.cta_site.specs.declared.site.Site.{Site}
use Rattle.cta_model.specs.declared.states.RepackCopy.{RepackCopy}
use Rattle.cta_model.specs.History.{History, is_empty}
use Rattle.cta_model.specs.Pins.{Pin, repack_pins}
use Rattle.cta_model.specs.Repacks.{Repack, is_live_item, repack_of}
use Rattle.cta_laws.specs.Pins.{repack_pins_by}
use Rattle.part_model.specs.Held.{Held, HeldAgree, set_all, unpin_all}
use Rattle.part_model.specs.Repacks.{Repacks, has_item_by}
use Rattle.part_laws.specs.Books.{AreRepacks}
use Rattle.part_laws.specs.BufferCalls.{has_pair}
use Rattle.part_laws.proofs.PinLists.{unpin_all_is}
use Rattle.part_laws.proofs.Stands.{set_all_rest}
use Rattle.part_moves.specs.Unpinned.{is_pinned_by}

pub pins_are : (f id : ℕ) (o : Option Repack) → not (is_empty (repack_pins f id o)) ≡ has_item_by (λ (i : RepackCopy). i.file == f && is_live_item i.state) o
pins_are f id None = refl
pins_are f id (Some r) = by (list_any (λ (i : RepackCopy). i.file == f && is_live_item i.state) r.items)
  where
    by : (b : Bool) → not (is_empty {A = Pin} (if b then record { owner = id; until = None } ∷ [] else [])) ≡ b
    by true = refl
    by false = refl

-- a book that stands for a history tells which repacks pin a file
pub pinned_is : (site : Site) (h : History) (v : Repacks) → AreRepacks site h v → (f id : ℕ) → is_pinned_by v f id ≡ repack_pins_by site h f id
pinned_is site h v is f id = ap (has_item_by (λ (i : RepackCopy). i.file == f && is_live_item i.state)) (is id) ∙ sym (pins_are f id (repack_of site h id))

-- flags that are set, and then pins that are taken off
pub both_agree : (safe : ℕ → Bool) (fs : List ℕ) (outs : List (ℕ × ℕ)) (v w u : Held) → HeldAgree w (set_all safe fs v) → HeldAgree u (unpin_all outs w) → HeldAgree u (record (unpin_all outs (set_all safe fs v)) { aside = v.aside })
both_agree safe fs outs v w u set off = record {
  size = off.size ∙ (unpin_all_is outs w).3 ∙ set.size ∙ sym (unpin_all_is outs (set_all safe fs v)).3;
  files = off.files ∙ (unpin_all_is outs w).1 ∙ set.files ∙ sym (unpin_all_is outs (set_all safe fs v)).1;
  aside = off.aside ∙ (unpin_all_is outs w).2 ∙ set.aside ∙ (set_all_rest safe fs v).1;
  pins = λ t g id. off.pins t g id ∙ (unpin_all_is outs w).0 t g id ∙ ap (λ (b : Bool). not (has_pair g id outs) && b) (set.pins t g id) ∙ sym ((unpin_all_is outs (set_all safe fs v)).0 t g id);
}
