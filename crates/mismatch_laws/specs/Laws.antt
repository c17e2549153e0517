-- Laws of histories that differ in nothing but what mismatches have found.
use Rattle.std.specs.Prelude.{◌≡◌, ℕ, List, map}
use Rattle.cta_site.specs.declared.site.Site.{Site}
use Rattle.cta_model.specs.declared.asks.Ask.{Ask}
use Rattle.cta_model.specs.declared.asks.Look.{Look}
use Rattle.cta_model.specs.History.{History}
use Rattle.cta_model.specs.Answers.{answer_of}
use Rattle.cta_model.specs.Kept.{history_after, history_of}
use Rattle.cta_model.specs.Legal.{IsFit, IsLegal}
use Rattle.cta_model.specs.Looks.{look_answer_of}
use Rattle.mismatch_laws.specs.Alike.{AreAlike, AreAlikeAsks, ask_without_found}

-- ---- what laws speak of

-- an ask without what was found, at the same moment
abbrev pub timed_without_found : ℕ × Ask → ℕ × Ask
timed_without_found x = (x.0, ask_without_found x.1)

-- asks, each with its moment, are alike where they are the same in order, but for what the mismatch of a Failed has found
abbrev pub AreAlikeLists : List (ℕ × Ask) → List (ℕ × Ask) → Type 0
AreAlikeLists xs ys = map timed_without_found xs ≡ map timed_without_found ys

-- ---- laws

-- on alike histories alike asks are answered the same
abbrev pub AnswersAreAlike : Type 0
AnswersAreAlike = (site : Site) (h k : History) (t : ℕ) (a b : Ask) → AreAlike h k → AreAlikeAsks a b → answer_of site h t a ≡ answer_of site k t b

-- on alike histories every look is answered the same
abbrev pub LooksAreAlike : Type 0
LooksAreAlike = (site : Site) (h k : History) (t : ℕ) (l : Look) → AreAlike h k → look_answer_of site h t l ≡ look_answer_of site k t l

-- alike histories are alike behind alike asks
abbrev pub HistoriesStayAlike : Type 0
HistoriesStayAlike =
    ((site : Site) (h k : History) (t : ℕ) (a b : Ask) → AreAlike h k → AreAlikeAsks a b → AreAlike (history_after site h t a) (history_after site k t b))
    × ((site : Site) (h k : History) (xs ys : List (ℕ × Ask)) → AreAlike h k → AreAlikeLists xs ys → AreAlike (history_of site h xs) (history_of site k ys))

-- what a session may ask on a history, it may ask on an alike one
abbrev pub FitsAreAlike : Type 0
FitsAreAlike = (site : Site) (h k : History) (a b : Ask) → AreAlike h k → AreAlikeAsks a b → IsFit site h a → IsFit site k b

-- a history is legal where an alike one is
abbrev pub LegalHistoriesAreAlike : Type 0
LegalHistoriesAreAlike = (site : Site) (h k : History) → AreAlike h k → IsLegal site h → IsLegal site k
