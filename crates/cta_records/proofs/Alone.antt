-- A body is that of what was taken exactly where nothing follows it.
use Rattle.std.proofs.Common.{◌≡◌, ◌∙◌, List, [], ℕ, Option, Some, None, MatchOption, sym, ap, subst}
use Rattle.cta_records.specs.Records.{kept_before, body_of, PartsFit}
use Rattle.cta_records.specs.Reads.{IsNoBody}
use Rattle.cta_records.specs.declared.kept.Kept.{Kept}

pub told_alone : (found : Option Kept) (kept : Kept) (rest body : List ℕ) → MatchOption found (rest ≡ [] → ⊥) (λ f. (f ≡ kept) × (rest ≡ [])) → PartsFit kept → body ≡ kept_before kept rest → ((k : Kept) → PartsFit k → body ≡ body_of k → rest ≡ []) → MatchOption found (IsNoBody body) (λ f. PartsFit f × (body ≡ body_of f))
told_alone None kept rest body none fit is again = λ k fits same. none (again k fits same)
told_alone (Some f) kept rest body some fit is again =
    (subst (λ k. PartsFit k) (sym some.0) fit, is ∙ ap (λ r. kept_before kept r) some.1 ∙ ap (λ k. body_of k) (sym some.0))
