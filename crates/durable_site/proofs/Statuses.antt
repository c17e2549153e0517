-- Why a server with a journal ends.
use Rattle.std.proofs.Common.{◌≡◌, ◌≤◌, ℕ, Bool, true, List, arith, refl, sym, subst}
use Rattle.std.specs.Prelude.{IfOk, IfSome, None, OnErr, Option, Some, Result, Ok, Err}
use Rattle.outside.specs.Causes.{Rose}
use Rattle.outside.specs.declared.Failed.{Failed}
use Rattle.cta_site.specs.declared.site.Site.{Site}
use Rattle.cta_model.specs.History.{History}
use Rattle.archive_opening.specs.Seen.{SourceView}
use Rattle.archive_opening.specs.SiteFile.{ReadsSite}
use Rattle.archive_opening.specs.declared.status.Status.{Status}
use Rattle.archive_opening.specs.declared.status.Status.TheVariants as status
use Rattle.durable_archive.specs.declared.back.CloseCause.{CloseCause}
use Rattle.durable_archive.specs.declared.back.CloseCause.TheVariants as cause
use Rattle.durable_opening.specs.Opened.{EndsOpening}
use Rattle.durable_archive.specs.Records.{KeepsHistory}
use Rattle.durable_site.specs.Ending.{EndsOf, EndsServing, KeepsSome}
use Rattle.durable_site.specs.Top.{Ends, IsDurableForm}

-- a run that ended well has an open journal
pub open_at_end : (accepted : Result Unit Failed) (closed : Option CloseCause) (why : Status) (before behind : ℕ) → EndsOf why accepted closed before behind → why ≡ status.Ok → closed ≡ None
open_at_end accepted None why before behind e is = refl
open_at_end accepted (Some (cause.Disk faults)) why before behind e is = (let other = e.0 in absurd (cc))
open_at_end accepted (Some cause.Memory) why before behind e is = absurd (cc)

module _ {K : Type 0} (faults : K → ℕ) where
  pub ends_serving : (why : Status) (accepted : Result Unit Failed) (closed : Option CloseCause) (disk : K) (first before after : ℕ) (ended : Bool) → EndsOf why accepted closed first (faults disk) → IfOk accepted (λ _. ended ≡ true) → OnErr accepted (Rose before after)
      → EndsServing faults why (Some disk) first before after ended
  ends_serving why accepted (Some (cause.Disk n)) disk first before after ended e ok err = subst (λ (s : Status). EndsServing faults s (Some disk) first before after ended) (sym e.0) e.1
  ends_serving why accepted (Some cause.Memory) disk first before after ended e ok err = subst (λ (s : Status). EndsServing faults s (Some disk) first before after ended) (sym e) tt
  ends_serving why (Ok done) None disk first before after ended e ok err = subst (λ (s : Status). EndsServing faults s (Some disk) first before after ended) (sym e) ok
  ends_serving why (Err failed) None disk first before after ended e ok err = subst (λ (s : Status). EndsServing faults s (Some disk) first before after ended) (sym e) err

  module _ (words : List (List ℕ)) (a b : SourceView) (told : Option (List ℕ)) (first before : ℕ) (form : IsDurableForm words) where
    -- the same of the whole run, which counts from what the disk had failed before it was opened
    pub served_ends : (why : Status) (given : Option K) (opened after : ℕ) (ended : Bool) → (site : Site) → ReadsSite a b site → first ≤ opened → EndsServing faults why given opened before after ended → Ends faults why given words a b told first before after ended
    served_ends status.Ok (Some disk) opened after ended site reads low e = (form, (site, reads), e)
    served_ends status.Ok None opened after ended site reads low e = absurd e
    served_ends status.ListenFault (Some disk) opened after ended site reads low e = (form, (site, reads), e)
    served_ends status.ListenFault None opened after ended site reads low e = absurd e
    served_ends status.JournalFault (Some disk) opened after ended site reads low e = (form, (site, reads), omega (arith, low, e))
    served_ends status.JournalFault None opened after ended site reads low e = absurd e
    served_ends status.NoMemory given opened after ended site reads low e = tt
    served_ends _ given opened after ended site reads low e = absurd e

    -- a run whose archive wasn't taken up
    pub opening_ends : (why : Status) (disk : K) (ended : Bool) → EndsOpening why a b told first (faults disk) → Ends faults why (Some disk) words a b told first before before ended
    opening_ends (status.Site rule item) disk ended e = (form, e, refl)
    opening_ends status.ReadFault disk ended e = (form, e, refl)
    opening_ends status.JournalFault disk ended e = (form, (e.0, e.1), e.2)
    opening_ends (status.JournalDamaged offset) disk ended e = (form, e, refl)
    opening_ends (status.JournalDiffers entry) disk ended e = (form, e, refl)
    opening_ends status.NoMemory disk ended e = tt
    opening_ends _ disk ended e = absurd e.2

-- what holds of a value that may be there, told otherwise
pub some_as : {K : Type 0} {P Q : K → Type 0} → (o : Option K) → ((k : K) → P k → Q k) → IfSome o P → IfSome o Q
some_as None f p = tt
some_as (Some k) f p = f k p

-- what a disk keeps of a history at the end of a run is told of the site at its start
pub keeps_some : {K : Type 0} (content : K → Option (List ℕ)) (s site : Site) (begun : List (List ℕ)) (h : History) (disk : K) → s ≡ site → (file : List ℕ) × (content disk ≡ Some file) × KeepsHistory s begun h file
    → KeepsSome content site begun disk
keeps_some content s site begun h disk same (file, told, keeps) = (file, told, h, subst (λ (x : Site). KeepsHistory x begun h file) same keeps)
