-- What an archive keeps, as contracts see it.
use Rattle.std.specs.Prelude.{ℕ, List, [], ◌∷◌, ◌≤◌, Option, None, Some, slice_set, if◌then◌else◌}
use Rattle.blob.specs.Records.{MediumView}
use Rattle.cta_site.specs.declared.site.Site.{Site}
use Rattle.cta_model.specs.declared.entries.Entry.{Entry}
use Rattle.cta_model.specs.declared.asks.Ask.{Ask}
use Rattle.cta_model.specs.declared.asks.Ask.TheVariants as ask
use Rattle.cta_model.specs.declared.answers.Answer.{Answer}
use Rattle.cta_model.specs.declared.answers.Answer.TheVariants as answer
use Rattle.cta_model.specs.History.{History}
use Rattle.cta_model.specs.Answers.{answer_of, is_accepted}
use Rattle.cta_model.specs.Legal.{IsFit, IsLegal, greatest_moment, new_entry}

-- a site, a history, and the shelf: by tape its medium, none while a drive has it
pub record Kept : Type 0 where
  pub site : Site
  pub history : History
  pub shelf : List (Option MediumView)

-- the shelf after an accepted ask that came with this medium, if with one: a Next that mounted a tape has taken its medium out of its place, and an End has put its medium
-- back at the place that its label says
abbrev pub shelf_after : Ask → Answer → Option MediumView → List (Option MediumView) → List (Option MediumView)
shelf_after (ask.Next d) (answer.Mounted m way v) brought shelf = slice_set shelf v None
shelf_after (ask.End m fault) a (Some x) shelf = slice_set shelf x.label (Some x)
shelf_after _ a brought shelf = shelf

-- what is kept after an ask that got this answer and came with this medium, if with one: one entry more exactly where it was accepted
abbrev pub kept_after : Kept → ℕ → Ask → Answer → Option MediumView → Kept
kept_after kept t k a brought = if is_accepted a then record kept { history = new_entry kept.history t k a ∷ kept.history; shelf = shelf_after k a brought kept.shelf } else kept

-- the history after an ask of the sequential archive
abbrev pub history_after : Site → History → ℕ → Ask → History
history_after site h t k = let a = answer_of site h t k in if is_accepted a then new_entry h t k a ∷ h else h

-- the history after asks, each with its moment
abbrev pub history_of : Site → History → List (ℕ × Ask) → History
history_of site h [] = h
history_of site h (x ∷ xs) = history_of site (history_after site h x.0 x.1) xs

-- the history behind an ask that is fit is legal where it was legal before
abbrev pub KeepsLegal : Type 0
KeepsLegal = (site : Site) (h : History) (t : ℕ) (k : Ask) → IsLegal site h → t ≤ greatest_moment → IsFit site h k → IsLegal site (history_after site h t k)
