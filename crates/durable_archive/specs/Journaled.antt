-- An archive and its journal.
use Rattle.std.specs.Prelude.{◌≡◌, ◌≤◌, ⊤, ℕ, List, ◌++◌, Option, Some, None, true}
use Rattle.outside.specs.Causes.{Rose}
use Rattle.cta_site.specs.declared.site.Site.{Site}
use Rattle.cta_model.specs.History.{History}
use Rattle.cta_model.specs.Kept.{Kept}
use Rattle.cta_journal.specs.declared.journal.Journal.{Journal}
use Rattle.cta_journal.specs.Standing.{StandsFor, disk_of, is_open_of}
use Rattle.durable_archive.specs.declared.back.CloseCause.{CloseCause}
use Rattle.durable_archive.specs.declared.back.CloseCause.TheVariants as cause
use Rattle.durable_archive.specs.Records.{AreRecordsOf, KeepsBetween, all_but_last}

-- an archive, its journal, why the journal is closed if it is, and the journal as it was when they came together
pub record LoggedView (K : Type 0) : Type 0 where
  pub archive : Kept
  pub journal : Journal K
  pub closed : Option CloseCause
  pub first : Journal K

-- why an append failed, where the disk had failed so often before it and behind it
abbrev pub IsCauseOf : CloseCause → ℕ → ℕ → Type 0
IsCauseOf (cause.Disk faults) before behind = Rose before behind × (faults ≡ behind)
IsCauseOf cause.Memory before behind = ⊤

-- how often the disk has failed, where it had so often at first: no less often then, and where the journal is closed, as its cause says
abbrev pub IsCountedFrom : ℕ → Option CloseCause → ℕ → Type 0
IsCountedFrom first None now = first ≤ now
IsCountedFrom first (Some why) now = IsCauseOf why first now

module _ {K : Type 0} (content : K → Option (List ℕ)) (may_leave : K → List ℕ → Type 0) where
  -- the log that a journal stands for, if its disk tells one, is that of this history
  abbrev pub LogIsHistory : Journal K → Site → History → Type 0
  LogIsHistory journal site h = (bodies : List (List ℕ)) → StandsFor content may_leave journal bodies → AreRecordsOf site h bodies

  -- a journal stands for the records of this history, of which the first have these bodies
  abbrev pub StandsForHistory : Journal K → Site → List (List ℕ) → History → Type 0
  StandsForHistory journal site begun h = (more : List (List ℕ)) × AreRecordsOf site h (begun ++ more) × StandsFor content may_leave journal (begun ++ more)

  -- Where the journal is closed for no cause, it is open, and stands for the history. Where it is closed, a crash leaves the records of the history, of which that of the
  -- last entry may be missing. Both where the disk told a log at first, which is then the beginning.
  abbrev pub IsLogged : Site → History → Journal K → Option CloseCause → Journal K → Type 0
  IsLogged site h journal None first = (is_open_of journal ≡ true) × ((begun : List (List ℕ)) → StandsFor content may_leave first begun → StandsForHistory journal site begun h)
  IsLogged site h journal (Some cause) first =
      (begun : List (List ℕ)) → StandsFor content may_leave first begun → (file : List ℕ) → may_leave (disk_of journal) file → KeepsBetween site begun (all_but_last h) h file

-- the history that is surely on the disk: all of it as long as the journal is closed for no cause, and else all but the last entry
abbrev pub sure_of : Option CloseCause → History → History
sure_of None h = h
sure_of (Some why) h = all_but_last h
