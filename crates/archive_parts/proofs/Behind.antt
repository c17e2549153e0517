-- The history and the parts behind the entry of an accepted ask.
use Rattle.std.proofs.Common.{◌≡◌, ◌∙◌, ◌+◌, ◌*◌, ◌<◌, ◌≤◌, ◌^◌, ℕ, ◌∷◌, true, sym, ap, subst, arith, length}
use Rattle.std.specs.Prelude.{Err, Ok}
use Rattle.cta_site.specs.declared.site.Site.{Site}
use Rattle.cta_site.specs.WellFormed.{IsWellFormed}
use Rattle.cta_model.specs.declared.answers.Answer.{Answer}
use Rattle.cta_model.specs.declared.asks.Ask.{Ask}
use Rattle.cta_model.specs.Answers.{answer_of, is_accepted}
use Rattle.cta_model.specs.Bare.{bare_answer}
use Rattle.cta_model.specs.History.{History}
use Rattle.cta_model.specs.Legal.{IsFit, IsLegal, greatest_moment, new_entry}
use Rattle.cta_model.proofs.Appends.{is_next}
use Rattle.cta_laws.specs.Lengths.{StaysShort}
use Rattle.archive_parts.specs.Called.{AreKeptCalled}
use Rattle.archive_parts.specs.Carrying.{CanCarryOut, IsCarriedOut}
use Rattle.archive_parts.specs.PartsKept.{ArePartsKept}
use Rattle.archive_parts.specs.Laws.{KeptPartsMove}
use Rattle.archive_parts.specs.declared.parts.ArchiveParts.{ArchiveParts}

-- a history has room for the numbers of two entries more
pub few_entries : (site : Site) (h : History) → StaysShort → IsWellFormed site → IsLegal site h → length h + 2 < 2 ^ 32
few_entries site h short well legal =
    let low : length h ≤ 2 * site.limits.history = short site h legal in
    let top : site.limits.history ≤ 1000000 = well.limits.history_to in
    omega arith

-- the history with the entry of an accepted ask is legal
pub legal_behind : (site : Site) (h : History) (t : ℕ) (k : Ask) (a : Answer) → IsLegal site h → t ≤ greatest_moment → IsFit site h k → a ≡ answer_of site h t k → is_accepted (answer_of site h t k) ≡ true
    → IsLegal site (new_entry h t k a ∷ h)
legal_behind site h t k a legal low fit answered accepted = (legal, is_next site h t k a legal low fit answered (ap is_accepted answered ∙ accepted))

-- parts on which the calls for its entry are made are kept for it
pub kept_behind : (site : Site) (h g : History) (t : ℕ) (k : Ask) (a : Answer) (p p' : ArchiveParts) → KeptPartsMove → IsLegal site h → ArePartsKept site h p → t ≤ greatest_moment → IsFit site h k
    → a ≡ answer_of site h t k → is_accepted (answer_of site h t k) ≡ true → AreKeptCalled site h (new_entry h t k a) p p' → g ≡ new_entry h t k a ∷ h → ArePartsKept site g p'
kept_behind site h g t k a p p' moves legal kept low fit answered accepted called is =
    subst (λ (x : History). ArePartsKept site x p') (sym is)
    (moves site h (new_entry h t k a) p p' legal (is_next site h t k a legal low fit answered (ap is_accepted answered ∙ accepted)) kept called)

-- what can be carried out over some parts can be over others that are kept for the same history
pub can_over : (site : Site) (h g : History) (p p' : ArchiveParts) (t : ℕ) (k : Ask) → CanCarryOut site h p t k → ArePartsKept site h p' → g ≡ h → CanCarryOut site g p' t k
can_over site h g p p' t k can kept is = subst (λ (x : History). CanCarryOut site x p' t k) (sym is) (record { at = can.at; legal = can.legal; kept = kept; fit = can.fit; accepted = can.accepted })

-- an ask is carried out once the calls for its entry are made and the entry is added
pub carried_behind : {E : Type 0} (site : Site) (h g : History) (t : ℕ) (k : Ask) (a : Answer) (p p' : ArchiveParts) → KeptPartsMove → CanCarryOut site h p t k → bare_answer a ≡ answer_of site h t k
    → AreKeptCalled site h (new_entry h t k (bare_answer a)) p p' → g ≡ new_entry h t k (bare_answer a) ∷ h → IsCarriedOut {E = E} site h t k (Ok a) g p'
carried_behind site h g t k a p p' moves can answered called is = record {
  answer = answered;
  entry = is;
  kept = kept_behind site h g t k (bare_answer a) p p' moves can.legal can.kept can.at can.fit answered can.accepted called is;
  same = tt;
  still = tt;
}

-- the same where the answer tells b, with other room in its lists
pub carried_with : {E : Type 0} (site : Site) (h g : History) (t : ℕ) (k : Ask) (a b : Answer) (p p' : ArchiveParts) → KeptPartsMove → CanCarryOut site h p t k → bare_answer a ≡ b → b ≡ answer_of site h t k
    → AreKeptCalled site h (new_entry h t k b) p p' → g ≡ new_entry h t k b ∷ h → IsCarriedOut {E = E} site h t k (Ok a) g p'
carried_with site h g t k a b p p' moves can told answered called is =
    carried_behind site h g t k a p p' moves can (told ∙ answered)
    (subst (λ (x : Answer). AreKeptCalled site h (new_entry h t k x) p p') (sym told) called)
    (is ∙ ap (λ (x : Answer). new_entry h t k x ∷ h) (sym told))

-- or else there was an error, which leaves the history, and parts that are kept for it
pub not_carried : {E : Type 0} (site : Site) (h g : History) (t : ℕ) (k : Ask) (e : E) (p' : ArchiveParts) → g ≡ h → ArePartsKept site h p' → IsCarriedOut {E = E} site h t k (Err e) g p'
not_carried site h g t k e p' same still = record { answer = tt; entry = tt; kept = tt; same = same; still = still }
