-- Logs that go on from another one.
use Rattle.std.specs.Prelude.{ℕ, ◌≤◌, List, ◌++◌, length, take}
use Rattle.std.specs.declared.option.Option.{Option}
use Rattle.cta_journal.specs.Log.{HasLog}
use Rattle.cta_journal.specs.Standing.{StandsFor}
use Rattle.cta_journal.specs.declared.journal.Journal.{Journal}

-- the log is this one with some of those behind it, in order, none skipped
abbrev pub HasFront : List (List ℕ) → List (List ℕ) → List ℕ → Type 0
HasFront bodies more file = (n : ℕ) × (n ≤ length more) × HasLog file (bodies ++ take n more)

-- the journal's disk stands for such a log
abbrev pub StandsForFront : {K : Type 0} → (K → Option (List ℕ)) → (K → List ℕ → Type 0) → Journal K → List (List ℕ) → List (List ℕ) → Type 0
StandsForFront content may_leave j bodies more = (n : ℕ) × (n ≤ length more) × StandsFor content may_leave j (bodies ++ take n more)
