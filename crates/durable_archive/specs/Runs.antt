-- Runs of calls of an archive that keeps a journal.
use Rattle.std.specs.Prelude.{ℕ, ◌≡◌, ◌≤◌, List, [], ◌∷◌, length, take, drop}
use Rattle.blob.specs.Records.{MediumView}
use Rattle.cta_site.specs.declared.site.Site.{Site}
use Rattle.cta_model.specs.History.{History}
use Rattle.cta_journal.specs.Disk.{LeavesOnly}
use Rattle.cta_journal.specs.Standing.{disk_of}
use Rattle.archive_turns.specs.declared.calls.ArchiveCall.{ArchiveCall}
use Rattle.archive_turns.specs.Fits.{CanPlay}
use Rattle.durable_archive.specs.declared.back.LoggedBack.{LoggedBack}
use Rattle.durable_archive.specs.Journaled.{LoggedView, sure_of}
use Rattle.durable_archive.specs.Records.{KeepsBetween}
use Rattle.durable_archive.specs.Turns.{LoggedKeeps, LoggedReturns, MovesBy}

module _ {M : Type 0} (told : M → MediumView) where
  -- calls may be made one after the other, the first one first: each may be played on the history that those before it left, whatever came back from them
  abbrev pub MayBeCalled : Site → History → List (ArchiveCall M) → Type 0
  MayBeCalled site h [] = Unit {0}
  MayBeCalled site h (c ∷ cs) = CanPlay told site h c × ((b : LoggedBack M) (later : History) → LoggedReturns told site h c b later → MayBeCalled site later cs)

  module _ {K : Type 0} (faults : K → ℕ) where
    -- one call: what comes back, what the archive keeps, and how the journal moves
    pub record IsCall (old : LoggedView K) (c : ArchiveCall M) (b : LoggedBack M) (new : LoggedView K) : Type 0 where
      pub kept : LoggedKeeps told old.archive c b new.archive
      pub moves : MovesBy faults old.closed old b new
      pub first : new.first ≡ old.first

    -- a run of calls with what came back from them, the newest first in both lists
    abbrev pub IsRun : LoggedView K → List (ArchiveCall M) → List (LoggedBack M) → LoggedView K → Type 0
    IsRun old [] [] new = new ≡ old
    IsRun old (c ∷ cs) (b ∷ bs) new = (mid : LoggedView K) × IsRun old cs bs mid × IsCall mid c b new
    IsRun old _ _ new = ⊥

module _ {K : Type 0} (moment : K → ℕ) (left_since : K → ℕ → List ℕ → Type 0) (site : Site) (begun : List (List ℕ)) where
  -- a crash at any moment from one state on to another leaves the records of a history that has all entries which were surely on the disk at first
  abbrev pub IsSafe : LoggedView K → LoggedView K → Type 0
  IsSafe old new = LeavesOnly moment left_since (disk_of old.journal) (disk_of new.journal) (KeepsBetween site begun (sure_of old.closed old.archive.history) new.archive.history)

  -- however a run of calls is cut in two, it is safe from the state between the two on; n calls are behind it
  abbrev pub IsSafeRun : {M : Type 0} → (M → MediumView) → (K → ℕ) → LoggedView K → List (ArchiveCall M) → List (LoggedBack M) → LoggedView K → Type 0
  IsSafeRun told faults old cs bs new =
      (n : ℕ) → n ≤ length cs → (mid : LoggedView K) × IsRun told faults old (drop n cs) (drop n bs) mid × IsRun told faults mid (take n cs) (take n bs) new × IsSafe mid new
