-- The one site of a hall.
use Rattle.std.proofs.Common.{◌≡◌, sym, ◌∙◌, subst, List, Option, Some}
use Rattle.turn_hall.specs.Rule.{IsRightValue, WasKept}

same_some : {W : Type 0} (w s : W) → Some w ≡ Some s → w ≡ s
same_some w s e = cc

pub right_at : {T W E : Type 0} (site : T → W) (legal : W → List E → Type 0) (history : T → List E) (o : Option W) (s : W) (t : T) → o ≡ Some s → IsRightValue site legal history o t → (site t ≡ s) × legal s (history t)
right_at site legal history o s t e r = let w = same_some r.0 s (sym r.1 ∙ e) in (r.2 ∙ w, subst (λ z. legal z (history t)) w r.3)

-- what a value of the site had as its history is legal there
pub was_legal : {T W E : Type 0} (site : T → W) (legal : W → List E → Type 0) (history : T → List E) (o : Option W) (s : W) (h : List E) → o ≡ Some s → WasKept history (IsRightValue site legal history) o h → legal s h
was_legal site legal history o s h e kept = subst (legal s) kept.1 (right_at site legal history o s kept.0 e kept.2).1
