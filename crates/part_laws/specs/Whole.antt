-- All that an archive keeps beside its entries, and what it stands for.
use Rattle.std.specs.Prelude.{ℕ, ◌≡◌, Option}
use Rattle.blob.specs.declared.sum.Sum256.{Sum256}
use Rattle.blob.specs.Records.{MediumView}
use Rattle.cta_site.specs.declared.site.Site.{Site}
use Rattle.cta_model.specs.declared.asks.Ask.{Ask}
use Rattle.cta_model.specs.declared.asks.Ask.TheVariants as ask
use Rattle.cta_model.specs.declared.answers.Answer.{Answer}
use Rattle.cta_model.specs.declared.answers.Answer.TheVariants as answer
use Rattle.cta_model.specs.declared.entries.Entry.{Entry}
use Rattle.cta_model.specs.History.{History}
use Rattle.cta_model.specs.Mounts.{tape_of_mount}
use Rattle.cta_model.specs.Media.{IsMediumOf}
use Rattle.cta_model.specs.Legal.{IsLegal}
use Rattle.part_laws.specs.AllParts.{AllParts}
use Rattle.part_laws.specs.Stands.{AreCalled, Stands}
use Rattle.part_laws.specs.Contents.{AreContents, contents_after}
use Rattle.part_laws.specs.Shelf.{IsShelf, Shelf, with_tape, without_tape}

-- what is kept: the values of all parts, the sums of the contents in the buffer by file, and the shelf
pub record KeptValues : Type 0 where
  pub parts : AllParts
  pub contents : ℕ → Option Sum256
  pub shelf : Shelf

-- it is kept for a history, which is legal: all parts stand for the history, the contents are those of its resident files, and each tape that
-- is not mounted has its true medium
pub record IsKept (site : Site) (h : History) (k : KeptValues) : Type 0 where
  pub legal : IsLegal site h
  pub parts : Stands site h k.parts
  pub contents : AreContents h k.contents
  pub shelf : IsShelf site h k.shelf

-- what the calls for an entry with this ask and answer do to the shelf: a Next takes the medium of its tape, an End brings back the one of its mount,
-- which is true for the history before it where it tells
abbrev pub ShelfCalled : History → Ask → Answer → Shelf → Shelf → Type 0
ShelfCalled h (ask.Next d) (answer.Mounted m way v) s s' = (t : ℕ) → s' t ≡ without_tape v s t
ShelfCalled h (ask.End m fault) a s s' = (x : MediumView) × IsMediumOf h (tape_of_mount h m) x × ((t : ℕ) → s' t ≡ with_tape (tape_of_mount h m) x s t)
ShelfCalled h _ a s s' = (t : ℕ) → s' t ≡ s t

-- the calls for the entry e are made on all that is kept
pub record IsKeptCalled (site : Site) (h : History) (e : Entry) (k k' : KeptValues) : Type 0 where
  pub parts : AreCalled site h e k.parts k'.parts
  pub contents : (f : ℕ) → k'.contents f ≡ contents_after h e k.contents f
  pub shelf : ShelfCalled h e.ask e.answer k.shelf k'.shelf
