-- Logs of records: which record may follow which, and where the first is that is wrong.
use Rattle.std.specs.Prelude.{◌≡◌, ℕ, ◌+◌, List, [], ◌∷◌, ◌++◌, length, map, reverse, option_map}
use Rattle.cta_site.specs.declared.site.Site.{Site}
use Rattle.cta_model.specs.Bare.{bare_entry}
use Rattle.cta_model.specs.Hands.{sum_of_blob}
use Rattle.cta_model.specs.History.{History}
use Rattle.cta_model.specs.Legal.{IsNext}
use Rattle.cta_records.specs.declared.kept.Kept.{Kept}
use Rattle.archive_restore.specs.Contents.{content_sum}

-- a record may follow the history h: its entry may, and it has exactly its content
pub record MayFollow (site : Site) (h : History) (kept : Kept) : Type 0 where
  pub next : IsNext site h (bare_entry kept.entry)
  pub content : option_map sum_of_blob kept.blob ≡ content_sum h kept.entry.ask kept.entry.answer

-- the entries of records, the newest first in both
abbrev pub entries_of : List Kept → History
entries_of records = map (λ (k : Kept). bare_entry k.entry) records

-- each of these records, the newest first, may follow those before it
abbrev pub AreRight : Site → List Kept → Type 0
AreRight site [] = Unit {0}
AreRight site (kept ∷ older) = AreRight site older × MayFollow site (entries_of older) kept

-- the history that a log tells, whose oldest record is first
abbrev pub history_of_log : List Kept → History
history_of_log log = entries_of (reverse log)

-- no record of a log is wrong
abbrev pub IsRightLog : Site → List Kept → Type 0
IsRightLog site log = AreRight site (reverse log)

-- the record of this number, from 1, is the first of the log that is wrong: those before it are right, and it may not follow them
pub record IsFirstWrong (site : Site) (log : List Kept) (n : ℕ) : Type 0 where
  pub older : List Kept
  pub wrong : Kept
  pub newer : List Kept
  pub split : log ≡ older ++ wrong ∷ newer
  pub number : n ≡ length older + 1
  pub right : IsRightLog site older
  pub stops : MayFollow site (history_of_log older) wrong → ⊥

-- a log has one first wrong record at most, and where it has one it isn't right
pub record IsWrongOnce : Type 0 where
  pub once : (site : Site) (log : List Kept) (n m : ℕ) → IsFirstWrong site log n → IsFirstWrong site log m → n ≡ m
  pub not_right : (site : Site) (log : List Kept) (n : ℕ) → IsFirstWrong site log n → IsRightLog site log → ⊥
