-- The shelf: the medium of each tape that is not mounted, as contracts see it.
use Rattle.std.specs.Prelude.{ℕ, ◌≡◌, ◌<◌, length, [], ◌∷◌, Option, Some, None, Bool, true, false, if◌then◌else◌, ◌==◌}
use Rattle.blob.specs.Records.{MediumView}
use Rattle.cta_site.specs.declared.site.Site.{Site}
use Rattle.cta_model.specs.declared.asks.Ask.TheVariants as ask
use Rattle.cta_model.specs.declared.asks.Direction.{Direction}
use Rattle.cta_model.specs.declared.asks.Fault.{Fault}
use Rattle.cta_model.specs.declared.answers.Answer.TheVariants as answer
use Rattle.cta_model.specs.declared.entries.Entry.{Entry}
use Rattle.cta_model.specs.History.{History}
use Rattle.cta_model.specs.Mounts.{is_mounted, tape_of_mount}
use Rattle.cta_model.specs.Media.{IsMediumOf}
use Rattle.cta_model.specs.Legal.{IsLegal}
use Rattle.cta_laws.specs.Changes.{may_change_mounts}

-- by tape its medium, none where there is none
abbrev pub Shelf : Type 0
Shelf = ℕ → Option MediumView

-- the place of a tape: empty where the tape is mounted, and otherwise the tape's medium, which is true for the history where it tells
abbrev pub IsPlaceOf : History → ℕ → Bool → Option MediumView → Type 0
IsPlaceOf h v true None = Unit {0}
IsPlaceOf h v true (Some x) = ⊥
IsPlaceOf h v false None = ⊥
IsPlaceOf h v false (Some x) = IsMediumOf h v x

-- each tape of the site has its place on the shelf
abbrev pub IsShelf : Site → History → Shelf → Type 0
IsShelf site h shelf = (v : ℕ) → v < length site.tapes.items → IsPlaceOf h v (is_mounted h v) (shelf v)

-- the shelf with nothing at the place of this tape
abbrev pub without_tape : ℕ → Shelf → Shelf
without_tape v shelf t = if t == v then None else shelf t

-- the shelf with a medium at the place of this tape
abbrev pub with_tape : ℕ → MediumView → Shelf → Shelf
with_tape v x shelf t = if t == v then Some x else shelf t

-- the media of all tapes, each true for the empty history, are its shelf
abbrev pub ShelfStartsFull : Type 0
ShelfStartsFull = (site : Site) (shelf : Shelf) → ((v : ℕ) → v < length site.tapes.items → IsPlaceOf [] v false (shelf v)) → IsShelf site [] shelf

-- an entry that opens and ends no mount leaves the shelf
abbrev pub ShelfStays : Type 0
ShelfStays = (site : Site) (h : History) (e : Entry) (shelf : Shelf) → IsLegal site (e ∷ h) → may_change_mounts e.ask ≡ false → IsShelf site h shelf → IsShelf site (e ∷ h) shelf

-- what a Next finds: its tape is one of the site, whose medium is there and true for the history with the entry; and a shelf that lacks it
pub record IsTaken (site : Site) (h : History) (e : Entry) (v : ℕ) (shelf : Shelf) : Type 0 where
  pub on_site : v < length site.tapes.items
  pub there : (x : MediumView) × (shelf v ≡ Some x) × IsMediumOf (e ∷ h) v x
  pub rest : IsShelf site (e ∷ h) (without_tape v shelf)

-- a Next takes the medium of its tape off the shelf
abbrev pub NextTakesMedium : Type 0
NextTakesMedium =
    (site : Site) (h : History) (e : Entry) (d m v : ℕ) (way : Direction) (shelf : Shelf) → IsLegal site (e ∷ h) → e.ask ≡ ask.Next d → e.answer ≡ answer.Mounted m way v
    → IsShelf site h shelf → IsTaken site h e v shelf

-- an End puts the medium of its mount, which is true for the history before it where it tells, back on the shelf
abbrev pub EndBringsMedium : Type 0
EndBringsMedium =
    (site : Site) (h : History) (e : Entry) (m : ℕ) (fault : Option Fault) (x : MediumView) (shelf : Shelf) → IsLegal site (e ∷ h) → e.ask ≡ ask.End m fault
    → IsMediumOf h (tape_of_mount h m) x → IsShelf site h shelf → IsShelf site (e ∷ h) (with_tape (tape_of_mount h m) x shelf)
