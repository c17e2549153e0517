-- How mounts are closed that were open when a run ended.
use Rattle.std.specs.Prelude.{◌≡◌, ◌⊎◌, ℕ, ◌∷◌, ◌++◌, Bool, true, false, List, [], None, Some, length, map, reverse, slice_get}
use Rattle.std.specs.List.{AllByRecursion}
use Rattle.blob.specs.Records.{MediumView}
use Rattle.cta_site.specs.declared.site.Site.{Site}
use Rattle.cta_model.specs.declared.asks.Ask.{Ask}
use Rattle.cta_model.specs.declared.asks.Ask.TheVariants as ask
use Rattle.cta_model.specs.declared.asks.Direction.{Direction}
use Rattle.cta_model.specs.declared.asks.Direction.TheVariants as direction
use Rattle.cta_model.specs.declared.asks.Fault.{Fault}
use Rattle.cta_model.specs.declared.asks.Fault.TheVariants as fault
use Rattle.cta_model.specs.declared.entries.Entry.{Entry}
use Rattle.cta_model.specs.Answers.{answer_of}
use Rattle.cta_model.specs.Bare.{bare_ask}
use Rattle.cta_model.specs.History.{History}
use Rattle.cta_model.specs.Kept.{Kept}
use Rattle.cta_model.specs.Mounts.{open_mounts, tape_of_mount}
use Rattle.archive_state.specs.ClaimedJobs.{claimed_jobs}
use Rattle.archive_turns.specs.Plays.{history_with}

-- the fault by which a mount gives its jobs back: a writing one hasn't flushed them, and a reading one hasn't read them
abbrev pub fault_by : Direction → Fault
fault_by direction.Archive = fault.Flush
fault_by direction.Retrieve = fault.Read

-- an ask that closes a mount: all jobs that it claims are given back, none charged; or it ends, with no fault
abbrev pub IsCloser : Site → History → Ask → Type 0
IsCloser site h (ask.Failed m f charged returned) = (charged.items ≡ []) × (returned.items ≡ claimed_jobs site h m)
IsCloser site h (ask.End m f) = f ≡ None
IsCloser site h _ = ⊥

-- each of these newer entries closes a mount
abbrev pub AreClosers : Site → List Entry → History → Type 0
AreClosers site [] h = Unit {0}
AreClosers site (e ∷ newer) h = AreClosers site newer h × IsCloser site (newer ++ h) e.ask

-- a history goes on by entries that close mounts, and by no other
abbrev pub GoesOnByClosing : Site → History → History → Type 0
GoesOnByClosing site h later = (newer : List Entry) × (later ≡ newer ++ h) × AreClosers site newer h

-- what is kept goes on so
abbrev pub OnlyCloses : Kept → Kept → Type 0
OnlyCloses old new = (new.site ≡ old.site) × GoesOnByClosing old.site old.history new.history

-- the history after an ask, as the sequential archive answers it
abbrev pub asked_history : Site → History → ℕ → Ask → History
asked_history site h t k = history_with h t (bare_ask k) (answer_of site h t k)

-- what an ask leaves that was answered (true); or that was not (false), where it may have been accepted before its append failed
abbrev pub Leaves : Site → History → ℕ → Ask → History → Bool → Type 0
Leaves site h t k later true = later ≡ asked_history site h t k
Leaves site h t k later false = (later ≡ h) ⊎ (later ≡ asked_history site h t k)

-- a medium is that of a tape, and tells no records
pub record IsUntoldOf (tape : ℕ) (m : MediumView) : Type 0 where
  pub label : m.label ≡ tape
  pub untold : m.records ≡ None

module _ {M : Type 0} (told : M → MediumView) where
  -- no medium tells records
  abbrev pub TellNoRecords : Type 0
  TellNoRecords = (m : M) → (told m).records ≡ None

  -- the media of a site, the one of each tape by its number, which tell no records
  pub record AreUntoldMedia (site : Site) (media : List M) : Type 0 where
    pub count : length media ≡ length site.tapes.items
    pub each : (v : ℕ) (m : M) → slice_get media v ≡ Some m → IsUntoldOf v (told m)

  -- these are the open mounts, in order of their numbers, each with the medium of its tape, which tells no records
  pub record AreOpenMounts (h : History) (mounts : List (ℕ × M)) : Type 0 where
    pub open_ones : map (λ (x : ℕ × M). x.0) mounts ≡ reverse (open_mounts h)
    pub media : AllByRecursion (λ (x : ℕ × M). IsUntoldOf (tape_of_mount h x.0) (told x.1)) mounts
