-- When a server with a journal ends with which status.
use Rattle.std.specs.Prelude.{◌≡◌, ⊤, ℕ, Bool, true, List, Option, Some}
use Rattle.cta_site.specs.declared.site.Site.{Site}
use Rattle.cta_words.specs.Durable.{SpellsDurable}
use Rattle.cta_words.specs.declared.durable.DurableWords.{DurableWords}
use Rattle.outside.specs.Causes.{Rose}
use Rattle.archive_opening.specs.Seen.{SourceView}
use Rattle.archive_opening.specs.SiteFile.{ReadsSite}
use Rattle.archive_opening.specs.declared.status.Status.{Status}
use Rattle.archive_opening.specs.declared.status.Status.TheVariants as status
use Rattle.cta_journal.specs.Log.{HasLog}
use Rattle.durable_opening.specs.Opened.{EndsOpening, ReadsSomeSite}
use Rattle.durable_site.specs.Ending.{KeepsSome}

-- the words `durable SITE ADDR MEDIA WORKERS JOURNAL`, with 1 to 64 workers
abbrev pub IsDurableForm : List (List ℕ) → Type 0
IsDurableForm words = (s : DurableWords) × SpellsDurable words s

-- When each status comes: by the words; the site file before and after; what the journal's disk told at first, where it tells, how often it had failed then, and the disk that is
-- given back; the listener's count of faults before and after, and whether it has ended. Want of memory may come at any time
abbrev pub Ends : {K : Type 0} → (K → ℕ) → Status → Option K → List (List ℕ) → SourceView → SourceView → Option (List ℕ) → ℕ → ℕ → ℕ → Bool → Type 0
Ends faults status.Ok (Some disk) words a b told first before after ended = IsDurableForm words × ReadsSomeSite a b × (ended ≡ true)
Ends faults status.Usage (Some disk) words a b told first before after ended = ¬ (IsDurableForm words) × (b ≡ a) × (after ≡ before) × (faults disk ≡ first)
Ends faults status.ListenFault (Some disk) words a b told first before after ended = IsDurableForm words × ReadsSomeSite a b × Rose before after
Ends faults status.JournalFault (Some disk) words a b told first before after ended = IsDurableForm words × ReadsSomeSite a b × Rose first (faults disk)
Ends faults status.NoMemory given words a b told first before after ended = ⊤
Ends faults why (Some disk) words a b told first before after ended = IsDurableForm words × EndsOpening why a b told first (faults disk) × (after ≡ before)
Ends faults _ _ words a b told first before after ended = ⊥

-- a disk has the records of a legal history of the site that the site file tells, which begin with the log of this file
abbrev pub BeginsWithLog : {K : Type 0} → (K → Option (List ℕ)) → SourceView → SourceView → List ℕ → K → Type 0
BeginsWithLog content a b file disk = (site : Site) × ReadsSite a b site × (begun : List (List ℕ)) × HasLog file begun × KeepsSome content site begun disk
