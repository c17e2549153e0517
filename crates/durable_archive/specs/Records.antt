-- The records of a history.
use Rattle.std.specs.Prelude.{◌≡◌, ◌⊎◌, ℕ, List, [], ◌∷◌, ◌++◌, map, Option, Some, None, option_map}
use Rattle.std.specs.List.{AllByRecursion}
use Rattle.cta_site.specs.declared.site.Site.{Site}
use Rattle.cta_model.specs.Bare.{bare_entry}
use Rattle.cta_model.specs.declared.entries.Entry.{Entry}
use Rattle.cta_model.specs.Hands.{sum_of_blob}
use Rattle.cta_model.specs.History.{History}
use Rattle.cta_records.specs.declared.kept.Kept.{Kept}
use Rattle.cta_records.specs.Records.{KeptFits, body_of}
use Rattle.cta_journal.specs.Log.{HasLog}
use Rattle.cta_journal.specs.Standing.{StandsFor}
use Rattle.cta_journal.specs.declared.journal.Journal.{Journal}
use Rattle.archive_restore.specs.Contents.{content_sum}
use Rattle.archive_restore.specs.Logs.{IsRightLog, history_of_log}

-- the record of an entry behind the history h: the entry, with exactly its content
pub record IsRecordOf (h : History) (e : Entry) (kept : Kept) : Type 0 where
  pub entry : bare_entry kept.entry ≡ e
  pub content : option_map sum_of_blob kept.blob ≡ content_sum h e.ask e.answer

-- the record of a history's last entry, none where there is no entry
abbrev pub IsLastKept : History → Option Kept → Type 0
IsLastKept [] kept = kept ≡ None
IsLastKept (e ∷ h) None = ⊥
IsLastKept (e ∷ h) (Some kept) = IsRecordOf h e kept

-- a log tells a history: none of its records is wrong, and each can be written
pub record TellsHistory (site : Site) (h : History) (log : List Kept) : Type 0 where
  pub right : IsRightLog site log
  pub history : history_of_log log ≡ h
  pub fit : AllByRecursion KeptFits log

-- these are the bodies of the records of a log that tells this history
abbrev pub AreRecordsOf : Site → History → List (List ℕ) → Type 0
AreRecordsOf site h bodies = (log : List Kept) × TellsHistory site h log × (map body_of log ≡ bodies)

-- a file has the records of this history, of which the first have these bodies
abbrev pub KeepsHistory : Site → List (List ℕ) → History → List ℕ → Type 0
KeepsHistory site begun h file = (more : List (List ℕ)) × AreRecordsOf site h (begun ++ more) × HasLog file (begun ++ more)

-- a history was this one once
abbrev pub IsOlder : History → History → Type 0
IsOlder h later = (newer : History) × (later ≡ newer ++ h)

-- a file has the records of a history that goes on from the first of these and led to the second
abbrev pub KeepsBetween : Site → List (List ℕ) → History → History → List ℕ → Type 0
KeepsBetween site begun h later file = (kept : History) × IsOlder h kept × IsOlder kept later × KeepsHistory site begun kept file

-- a history but for its last entry
abbrev pub all_but_last : History → History
all_but_last [] = []
all_but_last (e ∷ h) = h

-- a file has this log, or has it with one record more, which makes it that of this history
abbrev pub MayHaveNext : Site → History → List (List ℕ) → List ℕ → Type 0
MayHaveNext site later bodies file = HasLog file bodies ⊎ ((body : List ℕ) × AreRecordsOf site later (bodies ++ body ∷ []) × HasLog file (bodies ++ body ∷ []))

-- a file has this log, or has it with this record more, which can be written
abbrev pub MayHaveMore : List (List ℕ) → Kept → List ℕ → Type 0
MayHaveMore bodies kept file = HasLog file bodies ⊎ (KeptFits kept × HasLog file (bodies ++ body_of kept ∷ []))

-- a journal stands for this log with one record more, which makes it that of this history
abbrev pub StandsForNext : {K : Type 0} → (K → Option (List ℕ)) → (K → List ℕ → Type 0) → Journal K → Site → History → List (List ℕ) → Type 0
StandsForNext content may_leave journal site later bodies = (body : List ℕ) × AreRecordsOf site later (bodies ++ body ∷ []) × StandsFor content may_leave journal (bodies ++ body ∷ [])
