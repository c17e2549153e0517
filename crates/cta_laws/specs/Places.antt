-- Laws of places.
use Rattle.std.specs.Prelude.{ℕ, ◌+◌, ◌≡◌, ◌<◌, ◌≤◌, length, List, [], ◌∷◌, ◌++◌, Some, IsSome, Bool, true, false, ◌==◌, ◌&&◌}
use Rattle.std.specs.List.{list_any, AllByRecursion}
use Rattle.cta_site.specs.declared.site.Site.{Site}
use Rattle.cta_site.specs.Listed.{Listed}
use Rattle.cta_site.specs.ValidSite.{IsValidSite}
use Rattle.cta_model.specs.declared.entries.Entry.{Entry}
use Rattle.cta_model.specs.declared.asks.Ask.{Ask}
use Rattle.cta_model.specs.declared.asks.Ask.TheVariants as ask
use Rattle.cta_model.specs.declared.asks.Item.{Item}
use Rattle.cta_model.specs.declared.answers.Answer.TheVariants as answer
use Rattle.cta_model.specs.declared.states.Place.{Place}
use Rattle.cta_model.specs.History.{History}
use Rattle.cta_model.specs.Files.{is_live, copies_of_file, sum_of}
use Rattle.cta_model.specs.Mounts.{asked_mount, tape_of_mount}
use Rattle.cta_model.specs.Tapes.{tape_items, next_fseq}
use Rattle.cta_model.specs.Places.{place_of, flushed_in, is_copy_of, live_items_on}
use Rattle.cta_model.specs.Legal.{IsLegal}

-- ---- places stay

-- a live file that has a place of a copy has one in each longer history in which it is live
abbrev pub PlacesStay : Type 0
PlacesStay = (newer h : History) (f c : ℕ) → IsSome (place_of h f c) → is_live (newer ++ h) f ≡ true → IsSome (place_of (newer ++ h) f c)

-- whether an item is this copy of the file at this fSeq
abbrev pub is_item_of : ℕ → ℕ → ℕ → Item → Bool
is_item_of f c s i = (i.job.file == f) && ((i.job.copy == c) && (i.fseq == s))

-- in a legal history the item of a live file's place is among those of its tape, so that no Reclaim of the tape came after it
abbrev pub PlacesOnTape : Type 0
PlacesOnTape =
    (site : Site) (h : History) → IsLegal site h → (f c : ℕ) (p : Place) → place_of h f c ≡ Some p
    → list_any (is_item_of f c p.fseq) (tape_items h p.tape) ≡ true

-- in a legal history the fSeq of a live file's place is below the next of its tape
abbrev pub PlacesBelow : Type 0
PlacesBelow =
    (site : Site) (h : History) → IsLegal site h → (f c : ℕ) (p : Place) → place_of h f c ≡ Some p → p.fseq < next_fseq h p.tape

-- whether an entry flushes this copy of the file with fate Done
abbrev pub flushes : ℕ → ℕ → Entry → Bool
flushes f c e = list_any (is_copy_of f c) (flushed_in e.ask e.answer)

-- whether an ask reclaims this tape
abbrev pub reclaims : ℕ → Ask → Bool
reclaims v (ask.Reclaim who k) = k == v
reclaims v _ = false

-- in a legal history, where the entry e made the place that a copy has, that is on the tape of its mount, no later entry reclaims the
-- tape, and the place's fSeq is below the tape's next
abbrev pub PlacesAreNeverReclaimed : Type 0
PlacesAreNeverReclaimed =
    (site : Site) (newer h : History) (e : Entry) → IsLegal site (newer ++ e ∷ h) → (f c : ℕ) (p : Place) → place_of (newer ++ e ∷ h) f c ≡ Some p
    → flushes f c e ≡ true → list_any (flushes f c) newer ≡ false
    → (p.tape ≡ tape_of_mount h (asked_mount e.ask)) × (list_any (λ (x : Entry). reclaims p.tape x.ask) newer ≡ false) × (p.fseq < next_fseq (newer ++ e ∷ h) p.tape)

-- ---- the items of a tape

-- items have the fSeqs from s in turn
unfoldable pub AreInTurn : ℕ → List Item → Type 0
AreInTurn s [] = Unit {0}
AreInTurn s (i ∷ items) = (i.fseq ≡ s) × AreInTurn (s + 1) items

-- in a legal history the items of a tape have the fSeqs 1, 2, 3 in turn
abbrev pub ItemsInTurn : Type 0
ItemsInTurn = (site : Site) (h : History) → IsLegal site h → (v : ℕ) → AreInTurn 1 (tape_items h v)

-- in a legal history the items of a Flushed have the fSeqs from the next of its mount's tape in turn
abbrev pub FlushedInTurn : Type 0
FlushedInTurn =
    (site : Site) (h : History) (e : Entry) → IsLegal site (e ∷ h) → (m : ℕ) (items : Listed Item) → e.ask ≡ ask.Flushed m items
    → AreInTurn (next_fseq h (tape_of_mount h m)) items.items

-- an item has the length and SHA-256 of its file, which is one of the history's
abbrev pub IsOfItsFile : History → Item → Type 0
IsOfItsFile h i = (i.job.file ≤ length h) × (i.sum ≡ sum_of h i.job.file)

-- in a legal history each item of a tape is of its file
abbrev pub ItemsAreOfFiles : Type 0
ItemsAreOfFiles = (site : Site) (h : History) → IsLegal site h → (v : ℕ) → AllByRecursion (IsOfItsFile h) (tape_items h v)

-- in a legal history two places on one tape at one fSeq are of one copy of one file
abbrev pub PlacesAreApart : Type 0
PlacesAreApart =
    (site : Site) (h : History) → IsLegal site h → (f c g d : ℕ) (p q : Place) → place_of h f c ≡ Some p → place_of h g d ≡ Some q → p.tape ≡ q.tape → p.fseq ≡ q.fseq
    → (f ≡ g) × (c ≡ d)

-- items are in order of fSeq, and no two have the same
abbrev pub AreRising : List Item → Type 0
AreRising [] = Unit {0}
AreRising (i ∷ items) = AllByRecursion (λ (k : Item). i.fseq < k.fseq) items × AreRising items

-- in a legal history the live items of a tape are in order of fSeq, and each place on the tape has its item there
pub record AreLiveItems (h : History) (v : ℕ) : Type 0 where
  pub rising : AreRising (live_items_on h v)
  pub all : (f c : ℕ) (p : Place) → place_of h f c ≡ Some p → p.tape ≡ v → list_any (is_item_of f c p.fseq) (live_items_on h v) ≡ true

-- the live items of each tape are so
abbrev pub LiveItemsInOrder : Type 0
LiveItemsInOrder = (site : Site) (h : History) → IsLegal site h → (v : ℕ) → AreLiveItems h v

-- in a legal history the items of a Claim are in order of fSeq, and no two have the same
abbrev pub BatchesAreRising : Type 0
BatchesAreRising =
    (site : Site) (h : History) (e : Entry) → IsLegal site (e ∷ h) → (m : ℕ) (items : Listed Item) (evicted : Listed ℕ) → e.ask ≡ ask.Claim m
    → e.answer ≡ answer.Batch items evicted → AreRising items.items

-- in a legal history of a valid site a file has at most one place on a tape
abbrev pub OnePlaceOnTape : Type 0
OnePlaceOnTape =
    (site : Site) (h : History) → IsValidSite site → IsLegal site h → (f c d : ℕ) (p q : Place) → place_of h f c ≡ Some p → place_of h f d ≡ Some q → p.tape ≡ q.tape
    → c ≡ d

-- in a legal history each place is on a tape of the site
abbrev pub PlacesAreOnSite : Type 0
PlacesAreOnSite = (site : Site) (h : History) → IsLegal site h → (f c : ℕ) (p : Place) → place_of h f c ≡ Some p → p.tape < length site.tapes.items

-- in a legal history each place is of a copy of the file's class
abbrev pub PlacesAreOfCopies : Type 0
PlacesAreOfCopies =
    (site : Site) (h : History) → IsLegal site h → (f c : ℕ) (p : Place) → place_of h f c ≡ Some p → (1 ≤ c) × (c ≤ copies_of_file site h f)
