-- What is the same without what mismatches have found is the same on alike histories.
use Rattle.std.proofs.Common.{◌≡◌, ◌∙◌, sym, subst, refl, ℕ, List, ◌∷◌, [], Bool, true, false, map, ◌≤◌}
use Rattle.std.specs.Prelude.{if◌then◌else◌}
use Rattle.cta_site.specs.declared.site.Site.{Site}
use Rattle.cta_model.specs.declared.asks.Ask.{Ask}
use Rattle.cta_model.specs.declared.entries.Entry.{Entry}
use Rattle.cta_model.specs.History.{History}
use Rattle.cta_model.specs.Answers.{answer_of, is_accepted}
use Rattle.cta_model.specs.Kept.{history_after, history_of}
use Rattle.cta_model.specs.Legal.{IsFit, IsLegal, IsNext, new_entry}
use Rattle.cta_model.specs.Looks.{look_answer_of}
use Rattle.mismatch_laws.specs.Alike.{AreAlike, AreAlikeAsks, ask_without_found, entry_without_found, history_without_found}
use Rattle.mismatch_laws.specs.Laws.{AnswersAreAlike, AreAlikeLists, FitsAreAlike, HistoriesStayAlike, LegalHistoriesAreAlike, LooksAreAlike, timed_without_found}
use Rattle.mismatch_laws.proofs.History.{last_moment_same, moment_of_same}
use Rattle.mismatch_laws.proofs.Answers.{answer_of_same}
use Rattle.mismatch_laws.proofs.Looks.{look_answer_of_same}
use Rattle.mismatch_laws.proofs.Legal.{IsFit_same, actor_of_same}

-- ---- answers

pub answers_are_alike : AnswersAreAlike
answers_are_alike site h k t a b same asked = sym (answer_of_same site h t a) ∙ (λ z. answer_of site (same z) t (asked z)) ∙ answer_of_same site k t b

pub looks_are_alike : LooksAreAlike
looks_are_alike site h k t l same = sym (look_answer_of_same site h t l) ∙ (λ z. look_answer_of site (same z) t l) ∙ look_answer_of_same site k t l

-- ---- histories

either : (b : Bool) (e : Entry) (h : History) → history_without_found (if b then e ∷ h else h) ≡ (if b then entry_without_found e ∷ history_without_found h else history_without_found h)
either true e h = refl
either false e h = refl

pub history_after_same : (site : Site) (h : History) (t : ℕ) (a : Ask) → history_after site (history_without_found h) t (ask_without_found a) ≡ history_without_found (history_after site h t a)
history_after_same site h t a =
    (λ z. if is_accepted (answer_of_same site h t a z) then record { at = moment_of_same h t z; actor = actor_of_same h a z; ask = ask_without_found a; answer = answer_of_same site h t a z } ∷ history_without_found h else history_without_found h)
    ∙ sym (either (is_accepted (answer_of site h t a)) (new_entry h t a (answer_of site h t a)) h)

pub one_stays_alike : (site : Site) (h k : History) (t : ℕ) (a b : Ask) → AreAlike h k → AreAlikeAsks a b → AreAlike (history_after site h t a) (history_after site k t b)
one_stays_alike site h k t a b same asked = sym (history_after_same site h t a) ∙ (λ z. history_after site (same z) t (asked z)) ∙ history_after_same site k t b

history_of_same : (site : Site) (h : History) (xs : List (ℕ × Ask)) → history_of site (history_without_found h) (map timed_without_found xs) ≡ history_without_found (history_of site h xs)
history_of_same site h [] = refl
history_of_same site h (x ∷ xs) = (λ z. history_of site (history_after_same site h x.0 x.1 z) (map timed_without_found xs)) ∙ history_of_same site (history_after site h x.0 x.1) xs

all_stay_alike : (site : Site) (h k : History) (xs ys : List (ℕ × Ask)) → AreAlike h k → AreAlikeLists xs ys → AreAlike (history_of site h xs) (history_of site k ys)
all_stay_alike site h k xs ys same asked = sym (history_of_same site h xs) ∙ (λ z. history_of site (same z) (asked z)) ∙ history_of_same site k ys

pub histories_stay_alike : HistoriesStayAlike
histories_stay_alike = (one_stays_alike, all_stay_alike)

-- ---- fits and legal histories

pub fits_are_alike : FitsAreAlike
fits_are_alike site h k a b same asked fit = subst (λ T. T) (sym (IsFit_same site h a) ∙ (λ z. IsFit site (same z) (asked z)) ∙ IsFit_same site k b) fit

next_without : (site : Site) (h : History) (e : Entry) → IsNext site h e → IsNext site (history_without_found h) (entry_without_found e)
next_without site h e next = record {
  later = subst (λ n. n ≤ e.at) (sym (last_moment_same h)) next.later;
  within = next.within;
  by = next.by ∙ sym (actor_of_same h e.ask);
  fit = subst (λ T. T) (sym (IsFit_same site h e.ask)) next.fit;
  answered = next.answered ∙ sym (answer_of_same site h e.at e.ask);
  accepted = next.accepted;
}

next_with : (site : Site) (h : History) (e : Entry) → IsNext site (history_without_found h) (entry_without_found e) → IsNext site h e
next_with site h e next = record {
  later = subst (λ n. n ≤ e.at) (last_moment_same h) next.later;
  within = next.within;
  by = next.by ∙ actor_of_same h e.ask;
  fit = subst (λ T. T) (IsFit_same site h e.ask) next.fit;
  answered = next.answered ∙ answer_of_same site h e.at e.ask;
  accepted = next.accepted;
}

legal_without : (site : Site) (h : History) → IsLegal site h → IsLegal site (history_without_found h)
legal_without site [] legal = legal
legal_without site (e ∷ h) legal = (legal_without site h legal.0, next_without site h e legal.1)

legal_with : (site : Site) (h : History) → IsLegal site (history_without_found h) → IsLegal site h
legal_with site [] legal = legal
legal_with site (e ∷ h) legal = (legal_with site h legal.0, next_with site h e legal.1)

pub legal_histories_are_alike : LegalHistoriesAreAlike
legal_histories_are_alike site h k same legal = legal_with site k (subst (IsLegal site) same (legal_without site h legal))
