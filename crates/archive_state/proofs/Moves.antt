-- The state behind one more entry.
use Rattle.std.proofs.Common.{◌≡◌, ◌∙◌, ◌≤◌, ℕ, ◌∷◌, List, false, true, refl, sym, ap, subst}
use Rattle.std.specs.Prelude.{Option, Some, None, Result, Ok, Err}
use Rattle.blob.specs.Records.{MediumView, medium_at}
use Rattle.cta_site.specs.declared.site.Site.{Site}
use Rattle.cta_model.specs.declared.asks.Ask.{Ask}
use Rattle.cta_model.specs.declared.answers.Answer.{Answer}
use Rattle.cta_model.specs.History.{History}
use Rattle.cta_model.specs.Answers.{answer_of, is_accepted}
use Rattle.cta_model.specs.Bare.{bare_answer}
use Rattle.cta_model.specs.Legal.{IsFit, IsMount, IsMountOf, IsNext, greatest_moment, new_entry}
use Rattle.cta_model.specs.declared.asks.Direction.TheVariants as direction
use Rattle.cta_model.specs.declared.states.Mount.{Mount}
use Rattle.cta_model.proofs.Appends.{is_next}
use Rattle.cta_laws.specs.Changes.{may_change_mounts}
use Rattle.part_laws.proofs.ShelfLaw.{shelf_stays}
use Rattle.archive_parts.specs.declared.parts.ArchiveParts.{ArchiveParts}
use Rattle.archive_parts.specs.Carrying.{CanCarryOut, IsCarriedOut}
use Rattle.archive_parts.specs.PartsKept.{ArePartsKept}
use Rattle.archive_state.specs.States.{IsState}

-- an accepted ask can be carried out over what a state has
pub can_carry_out : (site : Site) (h : History) (p : ArchiveParts) (media : List (Option MediumView)) (t : ℕ) (k : Ask) → IsState site h p media → t ≤ greatest_moment → IsFit site h k → is_accepted (answer_of site h t k) ≡ true → CanCarryOut site h p t k
can_carry_out site h p media t k is low fit accepted = record { at = low; legal = is.legal; kept = is.parts; fit = fit; accepted = accepted }

-- the entry of an ask that opens and ends no mount
pub state_moves : (site : Site) (h : History) (t : ℕ) (k : Ask) (a : Answer) (p p' : ArchiveParts) (media : List (Option MediumView)) → IsState site h p media → t ≤ greatest_moment → IsFit site h k
    → a ≡ answer_of site h t k → is_accepted (answer_of site h t k) ≡ true → may_change_mounts k ≡ false → ArePartsKept site (new_entry h t k a ∷ h) p' → IsState site (new_entry h t k a ∷ h) p' media
state_moves site h t k a p p' media is low fit answered accepted quiet kept =
    let next : IsNext site h (new_entry h t k a) = is_next site h t k a is.legal low fit answered (ap is_accepted answered ∙ accepted) in
    record {
      legal = (is.legal, next);
      parts = kept;
      shelf = shelf_stays site h (new_entry h t k a) (medium_at media) (is.legal, next) quiet is.shelf;
      places = is.places;
    }

-- ---- what a call leaves, whether memory was found or not

-- the state behind the call of an ask that opens and ends no mount
pub state_after : {E : Type 0} (site : Site) (h : History) (t : ℕ) (k : Ask) (r : Result Answer E) (h' : History) (p p' : ArchiveParts) (media : List (Option MediumView)) → IsState site h p media → t ≤ greatest_moment → IsFit site h k
    → may_change_mounts k ≡ false → is_accepted (answer_of site h t k) ≡ true → IsCarriedOut site h t k r h' p' → IsState site h' p' media
state_after site h t k (Ok a) h' p p' media is low fit quiet accepted done =
    subst (λ (g : History). IsState site g p' media) (sym done.entry)
    (state_moves site h t k (bare_answer a) p p' media is low fit done.answer accepted quiet (subst (λ (g : History). ArePartsKept site g p') done.entry done.kept))
state_after site h t k (Err e) h' p p' media is low fit quiet accepted done =
    subst (λ (g : History). IsState site g p' media) (sym done.same) (record { legal = is.legal; parts = done.still; shelf = is.shelf; places = is.places })

-- a mount that writes is one
pub writes_is : (o : Option Mount) → IsMountOf direction.Archive o → IsMount o
writes_is None writes = absurd writes
writes_is (Some x) writes = tt

-- a mount that reads is one
pub reads_is : (o : Option Mount) → IsMountOf direction.Retrieve o → IsMount o
reads_is None reads = absurd reads
reads_is (Some x) reads = tt
