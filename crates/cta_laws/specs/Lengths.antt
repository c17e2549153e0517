-- Laws of a history's length and moments, and of how long lists get.
use Rattle.std.specs.Prelude.{ℕ, ◌*◌, ◌+◌, ◌≡◌, ◌≤◌, ◌∷◌, ◌++◌, length}
use Rattle.cta_site.specs.declared.site.Site.{Site}
use Rattle.cta_site.specs.Listed.{Listed}
use Rattle.cta_model.specs.declared.entries.Entry.{Entry}
use Rattle.cta_model.specs.declared.asks.Ask.TheVariants as ask
use Rattle.cta_model.specs.declared.asks.Item.{Item}
use Rattle.cta_model.specs.declared.answers.Answer.TheVariants as answer
use Rattle.cta_model.specs.History.{History, last_moment}
use Rattle.cta_model.specs.Tapes.{next_fseq}
use Rattle.cta_model.specs.Legal.{IsLegal}

-- a legal history has at most twice as many entries as its site's limit `history`
abbrev pub StaysShort : Type 0
StaysShort = (site : Site) (h : History) → IsLegal site h → length h ≤ 2 * site.limits.history

-- in a legal history moments never fall
abbrev pub MomentsNeverFall : Type 0
MomentsNeverFall = (site : Site) (newer h : History) → IsLegal site (newer ++ h) → last_moment h ≤ last_moment (newer ++ h)

-- in a legal history the next fSeq of a tape is at most 1 plus the limit `history`
abbrev pub FseqsAreLow : Type 0
FseqsAreLow = (site : Site) (h : History) → IsLegal site h → (v : ℕ) → next_fseq h v ≤ site.limits.history + 1

-- in a legal history a Claim takes at most as many items as the limit `batch_files`
abbrev pub ClaimsAreShort : Type 0
ClaimsAreShort =
    (site : Site) (h : History) (e : Entry) → IsLegal site (e ∷ h) → (m : ℕ) (items : Listed Item) (evicted : Listed ℕ) → e.ask ≡ ask.Claim m
    → e.answer ≡ answer.Batch items evicted → length items.items ≤ site.limits.batch_files

-- in a legal history a Flushed names at most as many items as the limit `batch_files`
abbrev pub FlushesAreShort : Type 0
FlushesAreShort =
    (site : Site) (h : History) (e : Entry) → IsLegal site (e ∷ h) → (m : ℕ) (items : Listed Item) → e.ask ≡ ask.Flushed m items
    → length items.items ≤ site.limits.batch_files
