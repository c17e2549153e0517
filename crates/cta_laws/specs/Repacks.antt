-- Laws of repacks.
use Rattle.std.specs.Prelude.{ℕ, ◌≡◌, Some, is_some, true}
use Rattle.std.specs.List.{AllByRecursion}
use Rattle.cta_site.specs.declared.site.Site.{Site}
use Rattle.cta_model.specs.declared.reports.ItemState.TheVariants as item
use Rattle.cta_model.specs.declared.states.RepackCopy.{RepackCopy}
use Rattle.cta_model.specs.History.{History, has_number}
use Rattle.cta_model.specs.Recalls.{Recall, live_recall}
use Rattle.cta_model.specs.Jobs.{archive_birth}
use Rattle.cta_model.specs.Repacks.{Repack, repack_of}
use Rattle.cta_model.specs.Legal.{IsLegal}

-- the recall of a file is live, and this entry waits for it
abbrev pub WaitsForRecall : Site → History → ℕ → ℕ → Type 0
WaitsForRecall site h id f = (r : Recall) × (live_recall site h f ≡ Some r) × (has_number id r.waiting ≡ true)

-- in a legal history an item of a repack that is READING has a live recall, for which the repack waits
abbrev pub ReadingHasRecall : Type 0
ReadingHasRecall =
    (site : Site) (h : History) → IsLegal site h → (id : ℕ) (q : Repack) → repack_of site h id ≡ Some q
    → AllByRecursion (λ (i : RepackCopy). i.state ≡ item.Reading → WaitsForRecall site h id i.file) q.items

-- in a legal history an item of a repack that is WRITING has a live archive job
abbrev pub WritingHasJob : Type 0
WritingHasJob =
    (site : Site) (h : History) → IsLegal site h → (id : ℕ) (q : Repack) → repack_of site h id ≡ Some q
    → AllByRecursion (λ (i : RepackCopy). i.state ≡ item.Writing → is_some (archive_birth site h i.file i.copy) ≡ true) q.items
