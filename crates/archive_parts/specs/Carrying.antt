-- When an ask can be carried out, and what that leaves.
use Rattle.std.specs.Prelude.{ℕ, ◌≡◌, ◌≤◌, ◌∷◌, true, Result, IfOk, OnErr}
use Rattle.cta_site.specs.declared.site.Site.{Site}
use Rattle.cta_model.specs.declared.asks.Ask.{Ask}
use Rattle.cta_model.specs.declared.answers.Answer.{Answer}
use Rattle.cta_model.specs.Answers.{answer_of, is_accepted}
use Rattle.cta_model.specs.Bare.{bare_answer}
use Rattle.cta_model.specs.History.{History}
use Rattle.cta_model.specs.Legal.{IsFit, IsLegal, greatest_moment, new_entry}
use Rattle.archive_parts.specs.PartsKept.{ArePartsKept}
use Rattle.archive_parts.specs.declared.parts.ArchiveParts.{ArchiveParts}

-- the ask k can be carried out at the moment t: the history is legal, the parts are kept for it, a session asks only what it may, and the sequential
-- archive accepts it
pub record CanCarryOut (site : Site) (h : History) (p : ArchiveParts) (t : ℕ) (k : Ask) : Type 0 where
  pub at : t ≤ greatest_moment
  pub legal : IsLegal site h
  pub kept : ArePartsKept site h p
  pub fit : IsFit site h k
  pub accepted : is_accepted (answer_of site h t k) ≡ true

-- the ask k is carried out at the moment t: the answer is the sequential archive's, the history has its entry more, and the parts are kept for that; an
-- error leaves the history, and parts that are kept for it
pub record IsCarriedOut {E : Type 0} (site : Site) (h : History) (t : ℕ) (k : Ask) (r : Result Answer E) (g : History) (p : ArchiveParts) : Type 0 where
  pub answer : IfOk r (λ a. bare_answer a ≡ answer_of site h t k)
  pub entry : IfOk r (λ a. g ≡ new_entry h t k (bare_answer a) ∷ h)
  pub kept : IfOk r (λ _. ArePartsKept site g p)
  pub same : OnErr r (g ≡ h)
  pub still : OnErr r (ArePartsKept site h p)
