-- What is kept in two runs and is alike: answers are the same, and what is kept behind them is alike.
use Rattle.std.proofs.Common.{◌≡◌, ◌∙◌, ℕ, inl, inr, refl, sym, ap}
use Rattle.std.specs.Prelude.{Option}
use Rattle.std.proofs.lemmas.Bool.{cases_Bool}
use Rattle.blob.specs.Records.{MediumView}
use Rattle.cta_model.specs.declared.asks.Ask.{Ask}
use Rattle.cta_model.specs.declared.asks.Look.{Look}
use Rattle.cta_model.specs.Answers.{answer_of, is_accepted}
use Rattle.cta_model.specs.Kept.{Kept, history_after, kept_after}
use Rattle.cta_model.specs.Looks.{look_answer_of}
use Rattle.mismatch_laws.specs.Alike.{AreAlike, AreAlikeAsks, history_without_found}
use Rattle.mismatch_laws.proofs.Stays.{answers_are_alike, looks_are_alike, one_stays_alike}

-- what is kept is of one site, and its histories are alike
pub record AreAlikeKept (k l : Kept) : Type 0 where
  pub site : k.site ≡ l.site
  pub history : AreAlike k.history l.history

pub same_answer : (k l : Kept) (t : ℕ) (a b : Ask) → AreAlikeKept k l → AreAlikeAsks a b → answer_of k.site k.history t a ≡ answer_of l.site l.history t b
same_answer k l t a b x asked = (λ z. answer_of (x.site z) k.history t a) ∙ answers_are_alike l.site k.history l.history t a b x.history asked

pub same_look : (k l : Kept) (t : ℕ) (look : Look) → AreAlikeKept k l → look_answer_of k.site k.history t look ≡ look_answer_of l.site l.history t look
same_look k l t look x = (λ z. look_answer_of (x.site z) k.history t look) ∙ looks_are_alike l.site k.history l.history t look x.history

after_is : (k : Kept) (t : ℕ) (a : Ask) (left : Option MediumView) → (kept_after k t a (answer_of k.site k.history t a) left).history ≡ history_after k.site k.history t a
after_is k t a left =
    elim (cases_Bool (is_accepted (answer_of k.site k.history t a))) [
      | inl hit ↦ rw hit refl
      | inr miss ↦ rw miss refl
    ]

-- what is kept behind alike asks, whatever media came with them
pub alike_after : (k l : Kept) (t : ℕ) (a b : Ask) (left other : Option MediumView) → AreAlikeKept k l → AreAlikeAsks a b
    → AreAlike (kept_after k t a (answer_of k.site k.history t a) left).history (kept_after l t b (answer_of l.site l.history t b) other).history
alike_after k l t a b left other x asked =
    ap history_without_found (after_is k t a left)
    ∙ (λ z. history_without_found (history_after (x.site z) k.history t a))
    ∙ one_stays_alike l.site k.history l.history t a b x.history asked
    ∙ ap history_without_found (sym (after_is l t b other))
