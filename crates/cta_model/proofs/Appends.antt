-- An accepted ask makes a legal history longer.
use Rattle.std.specs.Prelude.{ℕ, ◌≡◌, refl, ◌≤◌, [], ◌∷◌, true}
use Rattle.std.proofs.Common.{arith}
use Rattle.cta_site.specs.declared.site.Site.{Site}
use Rattle.cta_model.specs.declared.asks.Ask.{Ask}
use Rattle.cta_model.specs.declared.answers.Answer.{Answer}
use Rattle.cta_model.specs.History.{History, moment_of, last_moment}
use Rattle.cta_model.specs.Answers.{answer_of, is_accepted}
use Rattle.cta_model.specs.Legal.{IsLegal, IsNext, IsFit, new_entry, greatest_moment}

moment_twice : (h : History) (t : ℕ) → moment_of h (moment_of h t) ≡ moment_of h t
moment_twice h t = omega arith

last_within : (site : Site) (h : History) → IsLegal site h → last_moment h ≤ greatest_moment
last_within site [] legal = omega arith
last_within site (e ∷ h) legal = legal.1.within

-- the entry of an accepted ask may follow
pub is_next : (site : Site) (h : History) (t : ℕ) (k : Ask) (a : Answer) → IsLegal site h → t ≤ greatest_moment → IsFit site h k → a ≡ answer_of site h t k → is_accepted a ≡ true → IsNext site h (new_entry h t k a)
is_next site h t k a legal low fit answered accepted = record {
  later = omega arith;
  within = omega (arith, last_within site h legal);
  by = refl;
  fit = fit;
  answered = rw (moment_twice h t) answered;
  accepted = accepted;
}
