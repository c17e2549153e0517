-- What a mount claims is told by the claimers of jobs.
use Rattle.std.proofs.Common.{◌≡◌, ◌∙◌, ℕ, inl, inr, List, [], ◌∷◌, true, false, refl, sym, ap, subst}
use Rattle.std.specs.Prelude.{Option, Some, None, ◌==◌}
use Rattle.std.specs.List.{list_all}
use Rattle.std.proofs.lemmas.Bool.{eqb-true, eq-eqb}
use Rattle.cta_site.specs.declared.site.Site.{Site}
use Rattle.cta_model.specs.declared.asks.Job.{Job}
use Rattle.cta_model.specs.History.{History, is_number}
use Rattle.cta_model.specs.Mounts.{claimer_of, is_open, claims}
use Rattle.cta_model.specs.Answers.{claims_all}
use Rattle.cta_model.specs.Legal.{IsLegal}
use Rattle.cta_laws.proofs.Tests.{bool_cases}
use Rattle.cta_laws.proofs.StandLaw.{claimer_is_open}
use Rattle.cta_laws.proofs.Claimers.{claimer_is}

pub claims_by_claimer : (site : Site) (h : History) → IsLegal site h → (m : ℕ) (j : Job) → is_open h m ≡ true → claims h m j ≡ is_number m (claimer_of h j)
claims_by_claimer site h legal m j op =
    elim (bool_cases (claims h m j)) [
      | inl c ↦ c ∙ sym (ap (is_number m) (claimer_is site h legal j m op c) ∙ eq-eqb m m refl)
      | inr d ↦ d ∙ by (claimer_of h j) refl d
    ]
  where
    by : (o : Option ℕ) → claimer_of h j ≡ o → claims h m j ≡ false → false ≡ is_number m o
    by None is d = refl
    by (Some k) is d =
        elim (bool_cases (m == k)) [
          | inr miss ↦ sym miss
          | inl hit ↦ (let there : claims h m j ≡ true = subst (λ (n : ℕ). claims h n j ≡ true) (sym (eqb-true m k hit)) (claimer_is_open h j k is).1 in absurd (cc))
        ]

pub claims_all_by : (site : Site) (h : History) → IsLegal site h → (m : ℕ) (js : List Job) → is_open h m ≡ true → claims_all h m js ≡ list_all (λ j. is_number m (claimer_of h j)) js
claims_all_by site h legal m [] op = refl
claims_all_by site h legal m (j ∷ js) op = rw (claims_by_claimer site h legal m j op) (rw (claims_all_by site h legal m js op) refl)
