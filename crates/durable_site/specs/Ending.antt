-- How a server over an archive with its journal ends.
use Rattle.std.specs.Prelude.{◌≡◌, ⊤, ℕ, Bool, true, List, Option, Some, None, Result, Ok, Err}
use Rattle.cta_site.specs.declared.site.Site.{Site}
use Rattle.cta_model.specs.History.{History}
use Rattle.outside.specs.Causes.{Rose}
use Rattle.outside.specs.declared.Failed.{Failed}
use Rattle.archive_opening.specs.declared.status.Status.{Status}
use Rattle.archive_opening.specs.declared.status.Status.TheVariants as status
use Rattle.durable_archive.specs.declared.back.CloseCause.{CloseCause}
use Rattle.durable_archive.specs.declared.back.CloseCause.TheVariants as cause
use Rattle.durable_archive.specs.Records.{KeepsHistory}

-- which status a run has that came to this end of its listener, with its journal closed for this cause if it is, where the journal's disk had failed so often at first and at
-- the end: a closed journal comes first
abbrev pub EndsOf : Status → Result Unit Failed → Option CloseCause → ℕ → ℕ → Type 0
EndsOf why accepted (Some (cause.Disk faults)) before behind = (why ≡ status.JournalFault) × Rose before behind
EndsOf why accepted (Some cause.Memory) before behind = why ≡ status.NoMemory
EndsOf why (Ok done) None before behind = why ≡ status.Ok
EndsOf why (Err failed) None before behind = why ≡ status.ListenFault

-- why a server that has its archive ends: the listener has ended, or its count of faults rose; or that of the journal's disk, which is given back; or memory ran out
abbrev pub EndsServing : {K : Type 0} → (K → ℕ) → Status → Option K → ℕ → ℕ → ℕ → Bool → Type 0
EndsServing faults status.Ok (Some disk) first before after ended = ended ≡ true
EndsServing faults status.ListenFault (Some disk) first before after ended = Rose before after
EndsServing faults status.JournalFault (Some disk) first before after ended = Rose first (faults disk)
EndsServing faults status.NoMemory disk first before after ended = ⊤
EndsServing faults _ _ first before after ended = ⊥

-- a disk has the records of some legal history of the site, which begin with these
abbrev pub KeepsSome : {K : Type 0} → (K → Option (List ℕ)) → Site → List (List ℕ) → K → Type 0
KeepsSome content site begun disk = (file : List ℕ) × (content disk ≡ Some file) × (h : History) × KeepsHistory site begun h file
