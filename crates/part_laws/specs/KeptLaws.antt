-- How all that is kept moves.
use Rattle.std.specs.Prelude.{ℕ, ◌≡◌, ◌≤◌, ◌<◌, length, [], ◌∷◌, None, true, false}
use Rattle.cta_site.specs.declared.site.Site.{Site}
use Rattle.cta_model.specs.declared.asks.Ask.{Ask}
use Rattle.cta_model.specs.declared.answers.Answer.{Answer}
use Rattle.cta_model.specs.declared.entries.Entry.{Entry}
use Rattle.cta_model.specs.History.{History}
use Rattle.cta_model.specs.Answers.{answer_of, is_accepted}
use Rattle.cta_model.specs.Legal.{IsFit, IsNext, greatest_moment, new_entry}
use Rattle.part_laws.specs.AllParts.{empty_parts}
use Rattle.part_laws.specs.Shelf.{IsPlaceOf, Shelf}
use Rattle.part_laws.specs.Whole.{IsKept, IsKeptCalled, KeptValues}

-- at the start: empty parts, no content, and a medium for each tape, true for the empty history where it tells
abbrev pub KeptBegins : Type 0
KeptBegins =
    (site : Site) (shelf : Shelf) → ((v : ℕ) → v < length site.tapes.items → IsPlaceOf [] v false (shelf v))
    → IsKept site [] (record { parts = empty_parts site; contents = λ f. None; shelf = shelf })

-- what is kept for a history is kept for it with one entry more that may follow it, once the calls for the entry are made
abbrev pub KeptMoves : Type 0
KeptMoves = (site : Site) (h : History) (e : Entry) (k k' : KeptValues) → IsNext site h e → IsKept site h k → IsKeptCalled site h e k k' → IsKept site (e ∷ h) k'

-- and so with the entry of an ask that is fit and accepted
abbrev pub AcceptedAskMovesKept : Type 0
AcceptedAskMovesKept =
    (site : Site) (h : History) (t : ℕ) (k : Ask) (a : Answer) (v v' : KeptValues) → t ≤ greatest_moment → IsFit site h k → a ≡ answer_of site h t k → is_accepted a ≡ true
    → IsKept site h v → IsKeptCalled site h (new_entry h t k a) v v' → IsKept site (new_entry h t k a ∷ h) v'
