-- Laws of media: what is true for a history stays true.
use Rattle.std.specs.Prelude.{ℕ, ◌+◌, ◌-◌, ◌≡◌, ◌≤◌, ◌==◌, ◌∷◌, ◌++◌, length, Some, Bool, true, false, slice_get}
use Rattle.std.specs.List.{AllByRecursion}
use Rattle.blob.specs.Records.{TapeRecords}
use Rattle.cta_site.specs.declared.site.Site.{Site}
use Rattle.cta_site.specs.Listed.{Listed}
use Rattle.cta_model.specs.declared.entries.Entry.{Entry}
use Rattle.cta_model.specs.declared.asks.Ask.{Ask}
use Rattle.cta_model.specs.declared.asks.Ask.TheVariants as ask
use Rattle.cta_model.specs.declared.asks.Item.{Item}
use Rattle.cta_model.specs.History.{History}
use Rattle.cta_model.specs.Mounts.{is_open, is_mounted, tape_of_mount}
use Rattle.cta_model.specs.Tapes.{tape_items}
use Rattle.cta_model.specs.Media.{IsTrueMedium}
use Rattle.cta_model.specs.Legal.{IsLegal}
use Rattle.cta_laws.specs.Mounts.{are_about_others}

-- whether an ask puts items on the tape: only a Flushed of its mount does
abbrev pub puts_on : History → Ask → ℕ → Bool
puts_on h (ask.Flushed m items) v = tape_of_mount h m == v
puts_on h _ v = false

-- a true medium stays true through an entry that puts nothing on its tape
abbrev pub TrueMediumStays : Type 0
TrueMediumStays = (site : Site) (h : History) (e : Entry) (v : ℕ) (t : TapeRecords) → IsLegal site (e ∷ h) → puts_on h e.ask v ≡ false → IsTrueMedium h v t → IsTrueMedium (e ∷ h) v t

-- the medium of a tape that is not mounted stays true through each entry
abbrev pub ShelfStaysTrue : Type 0
ShelfStaysTrue = (site : Site) (h : History) (e : Entry) (v : ℕ) (t : TapeRecords) → IsLegal site (e ∷ h) → is_mounted h v ≡ false → IsTrueMedium h v t → IsTrueMedium (e ∷ h) v t

-- the medium of an open mount stays true through entries that are about others
abbrev pub MountedStaysTrue : Type 0
MountedStaysTrue =
    (site : Site) (newer h : History) (m : ℕ) (t : TapeRecords) → IsLegal site (newer ++ h) → is_open h m ≡ true → are_about_others m newer ≡ true
    → IsTrueMedium h (tape_of_mount h m) t → IsTrueMedium (newer ++ h) (tape_of_mount h m) t

-- the record at an item's fSeq is the item's sum
abbrev pub HasItem : TapeRecords → Item → Type 0
HasItem t i = slice_get t.records (i.fseq - 1) ≡ Some i.sum

-- the medium of a mount that is true, and has a safe record of each item behind those of its tape, is true behind the Flushed of these items
abbrev pub FlushedIsTrue : Type 0
FlushedIsTrue =
    (site : Site) (h : History) (e : Entry) (m : ℕ) (items : Listed Item) (t : TapeRecords) → IsLegal site (e ∷ h) → e.ask ≡ ask.Flushed m items
    → IsTrueMedium h (tape_of_mount h m) t → length (tape_items h (tape_of_mount h m)) + length items.items ≤ t.safe → AllByRecursion (HasItem t) items.items
    → IsTrueMedium (e ∷ h) (tape_of_mount h m) t
