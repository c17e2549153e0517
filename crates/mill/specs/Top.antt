-- What a run of the mill leaves, and when it ends with which status.
use Rattle.std.specs.Prelude.{ℕ, ◌≡◌, ◌++◌, ⊤, List, Option, codes, decimal}
use Rattle.std.specs.Io.KnownBytes.{Appends}
use Rattle.cta_model.specs.Kept.{Kept}
use Rattle.cta_model.specs.Legal.{IsLegal}
use Rattle.cta_words.specs.Numbers.{SpellsRun}
use Rattle.cta_words.specs.declared.numbers.MillNumbers.{MillNumbers}
use Rattle.outside.specs.Causes.{Rose}
use Rattle.archive_opening.specs.declared.status.Status.{Status}
use Rattle.archive_opening.specs.declared.status.Status.TheVariants as status
use Rattle.load_mill.specs.Sites.{mill_site}
use Rattle.mill_crew.specs.Contents.{AreFetched, bytes_of, file_sums}
use Rattle.mill.specs.Milled.{IsMilled}

-- a word, a blank, a number, and a new line
abbrev pub line_of : List ℕ → ℕ → List ℕ
line_of word n = word ++ codes " " ++ decimal n ++ codes "\n"

-- the five lines: the files, their bytes, the items that were flushed, the recalls that completed, and the total of what was fetched
abbrev pub summary : ℕ → ℕ → ℕ → ℕ → ℕ → List ℕ
summary files bytes archived recalled total = line_of (codes "files") files ++ line_of (codes "bytes") bytes ++ line_of (codes "archived") archived ++ line_of (codes "recalled") recalled ++ line_of (codes "sum") total

-- A run by these words went to its end: the archive has the mill's site and a legal history, which is that of a mill with the files of the words; the total is that of contents with the sums of these
-- files; and the five lines were written
pub record HasMilled (words : List (List ℕ)) (archive : Kept) (before after : Option (List ℕ)) : Type 0 where
  pub numbers : MillNumbers
  pub spelled : SpellsRun words numbers
  pub site : archive.site ≡ mill_site
  pub legal : IsLegal archive.site archive.history
  pub archived : ℕ
  pub recalled : ℕ
  pub total : ℕ
  pub milled : IsMilled archive.site archive.history (file_sums numbers.seed 0 numbers.files) archived recalled
  pub fetched : AreFetched (file_sums numbers.seed 0 numbers.files) total
  pub printed : Appends before after (summary numbers.files (bytes_of numbers.seed numbers.files) archived recalled total)

-- the words `mill SEED FILES WORKERS`, each number in its range
abbrev pub IsMillForm : List (List ℕ) → Type 0
IsMillForm words = (numbers : MillNumbers) × SpellsRun words numbers

-- When each status comes, by the words, and the sink's bytes and count of faults before and after. Want of memory, or a run that is not as it should be, may come at any time
abbrev pub Ends : Status → List (List ℕ) → Option (List ℕ) → Option (List ℕ) → ℕ → ℕ → Type 0
Ends status.Ok words w w' before after = IsMillForm words
Ends status.Usage words w w' before after = ¬ (IsMillForm words) × (w' ≡ w) × (after ≡ before)
Ends status.WriteFault words w w' before after = IsMillForm words × Rose before after
Ends status.NoMemory words w w' before after = (w' ≡ w) × (after ≡ before)
Ends _ words w w' before after = ⊥
