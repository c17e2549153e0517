-- When an ask may be made once more.
use Rattle.std.specs.Prelude.{◌≡◌, ◌≤◌, ℕ, Option, Some, None, Bool, true, false, option_map}
use Rattle.std.specs.Arc.{arc_value}
use Rattle.std.specs.declared.alloc.Global.{Global}
use Rattle.std.specs.declared.sync.Arc.{Arc}
use Rattle.blob.specs.declared.blobs.Blob.{Blob}
use Rattle.cta_site.specs.declared.site.Site.{Site}
use Rattle.cta_model.specs.declared.asks.Ask.{Ask}
use Rattle.cta_model.specs.declared.hands.Hand.{Hand}
use Rattle.cta_model.specs.declared.hands.Hand.TheVariants as hands
use Rattle.cta_model.specs.Answers.{answer_of, is_accepted}
use Rattle.cta_model.specs.Bare.{bare_ask}
use Rattle.cta_model.specs.Hands.{sum_of_blob}
use Rattle.cta_model.specs.History.{History}
use Rattle.cta_model.specs.Legal.{IsFit, greatest_moment}
use Rattle.cta_records.specs.declared.kept.Kept.{Kept}
use Rattle.archive_turns.specs.Fits.{IsOpenAtEnd}
use Rattle.archive_restore.specs.Contents.{content_sum}

-- the ask is accepted at no moment
abbrev pub IsRefused : Site → History → Ask → Type 0
IsRefused site h k = (t : ℕ) → is_accepted (answer_of site h t (bare_ask k)) ≡ false

-- the hand of a Recalled: a record's own content, or that of the file where the record has none; none where the file has none
abbrev pub IsRecalledHand : {M : Type 0} → Option (Arc Blob Global) → Option (Arc Blob Global) → Option (Hand M) → Type 0
IsRecalledHand None own found = found ≡ None
IsRecalledHand (Some first) None found = (copy : Arc Blob Global) × (found ≡ Some (hands.Blob copy)) × (arc_value copy ≡ arc_value first)
IsRecalledHand (Some first) (Some own) found = found ≡ Some (hands.Blob own)

-- true: the ask fits, and the mount that it ends, if it ends one, is open; false: it doesn't fit, or is refused
abbrev pub MayAsk : Bool → Site → History → Ask → Type 0
MayAsk true site h k = IsFit site h k × IsOpenAtEnd h k
MayAsk false site h k = IsFit site h k → IsRefused site h k

-- the same at a moment: true, where it is none after the greatest; false, where it is one, or the ask may not be made
abbrev pub MayAskAt : Bool → Site → History → ℕ → Ask → Type 0
MayAskAt true site h t k = (t ≤ greatest_moment) × IsFit site h k × IsOpenAtEnd h k
MayAskAt false site h t k = t ≤ greatest_moment → IsFit site h k → IsRefused site h k

-- a record's ask may be made at its moment, and the record has its content
pub record CanTake (site : Site) (h : History) (kept : Kept) : Type 0 where
  pub within : kept.entry.at ≤ greatest_moment
  pub fit : IsFit site h kept.entry.ask
  pub at_end : IsOpenAtEnd h kept.entry.ask
  pub content : option_map sum_of_blob kept.blob ≡ content_sum h kept.entry.ask kept.entry.answer
