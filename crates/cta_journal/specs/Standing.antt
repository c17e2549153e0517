-- When the disk of a journal stands for a log.
use Rattle.std.specs.Prelude.{◌≡◌, ◌≢◌, ◌+◌, ℕ, Bool, List, [], ◌∷◌, ◌++◌, length, take, Some}
use Rattle.std.specs.declared.option.Option.{Option}
use Rattle.cta_journal.specs.Disk.{Only}
use Rattle.cta_journal.specs.Log.{records}
use Rattle.cta_journal.specs.declared.journal.Journal.{Journal}

-- the disk of a journal
abbrev pub disk_of : {K : Type 0} → Journal K → K
disk_of j = j.disk

-- whether a journal is open
abbrev pub is_open_of : {K : Type 0} → Journal K → Bool
is_open_of j = j.is_open

-- The disk's content is the records of these bodies and one closed gate, at `end`, and a crash leaves just that.
pub record Stands {K : Type 0} (content : K → Option (List ℕ)) (may_leave : K → List ℕ → Type 0) (disk : K) (end : ℕ) (bodies : List (List ℕ)) : Type 0 where
  pub gate : ℕ
  pub shut : gate ≢ 1
  pub told : content disk ≡ Some (records bodies ++ gate ∷ [])
  pub ends : end ≡ length (records bodies)
  pub durable : Only (records bodies ++ gate ∷ []) (may_leave disk)

-- the journal's disk stands for the log
abbrev pub StandsFor : {K : Type 0} → (K → Option (List ℕ)) → (K → List ℕ → Type 0) → Journal K → List (List ℕ) → Type 0
StandsFor content may_leave j bodies = Stands content may_leave j.disk j.end bodies

-- what an append leaves: the records, and behind them a closed gate, 0
abbrev pub log_file : List (List ℕ) → List ℕ
log_file bodies = records bodies ++ 0 ∷ []

-- what an opening leaves of a file with this log: of one of at most one byte a closed gate, 0, of any other the front up to the gate behind the last record
abbrev pub opened : List ℕ → List (List ℕ) → List ℕ
opened [] bodies = 0 ∷ []
opened (a ∷ []) bodies = 0 ∷ []
opened (a ∷ b ∷ rest) bodies = take (length (records bodies) + 1) (a ∷ b ∷ rest)
