-- Laws of turns.
use Rattle.std.specs.Prelude.{ℕ, ◌≡◌, ◌≤◌, ◌⊎◌, ◌∷◌, ◌++◌, Option, Some, Bool, true, false}
use Rattle.blob.specs.Records.{MediumView}
use Rattle.cta_site.specs.declared.site.Site.{Site}
use Rattle.cta_model.specs.declared.entries.Entry.{Entry}
use Rattle.cta_model.specs.History.{History, next_number}
use Rattle.cta_model.specs.Mounts.{is_open, tape_of_mount}
use Rattle.cta_model.specs.Media.{IsMediumOf}
use Rattle.cta_model.specs.Legal.{IsLegal}
use Rattle.cta_laws.specs.Mounts.{IsMountKept}
use Rattle.archive_turns.specs.declared.calls.ArchiveCall.{ArchiveCall}
use Rattle.archive_turns.specs.declared.calls.ArchiveBack.{ArchiveBack}
use Rattle.archive_turns.specs.Topics.{topic_of, AreApart}
use Rattle.archive_turns.specs.Plays.{Plays, call_adds, call_asks}
use Rattle.archive_turns.specs.Fits.{IsFitCall}

-- one entry more, or none
abbrev pub IsGrown : History → Bool → History → Type 0
IsGrown h true later = (e : Entry) × (later ≡ e ∷ h)
IsGrown h false later = later ≡ h

-- in a legal history an entry is about a mount of its own number or of an earlier one
abbrev pub OpensByItsNumber : Type 0
OpensByItsNumber = (site : Site) (newer h : History) (e : Entry) (m : ℕ) → IsLegal site (newer ++ e ∷ h) → topic_of e ≡ Some m → m ≤ next_number h

-- an open mount is kept in each longer legal history whose new entries are about others
abbrev pub MountIsKept : Type 0
MountIsKept = (site : Site) (newer h : History) (m : ℕ) → IsLegal site (newer ++ h) → is_open h m ≡ true → AreApart (Some m) newer → IsMountKept (newer ++ h) h m

-- the medium of an open mount stays that of its tape, and true, in each longer legal history whose new entries are about others
abbrev pub TrueMediumStays : Type 0
TrueMediumStays =
    (site : Site) (newer h : History) (m : ℕ) (x : MediumView) → IsLegal site (newer ++ h) → is_open h m ≡ true → AreApart (Some m) newer
    → IsMediumOf h (tape_of_mount h m) x → IsMediumOf (newer ++ h) (tape_of_mount (newer ++ h) m) x

module _ {M : Type 0} (told : M → MediumView) where
  -- a call adds one entry where its answer is accepted, and none otherwise
  abbrev pub CallAddsOrKeeps : Type 0
  CallAddsOrKeeps = (site : Site) (h : History) (c : ArchiveCall M) (b : ArchiveBack M) (later : History) → Plays told site h c b later → IsGrown h (call_adds c b) later

  -- a legal history is legal after a call
  abbrev pub PlayKeepsLegal : Type 0
  PlayKeepsLegal = (site : Site) (h : History) (c : ArchiveCall M) (b : ArchiveBack M) (later : History) → IsLegal site h → Plays told site h c b later → IsLegal site later

  -- the entry that a call adds is about a mount of its own number, or about the one that was asked about
  abbrev pub EntriesNameTheirMounts : Type 0
  EntriesNameTheirMounts =
      (site : Site) (h : History) (c : ArchiveCall M) (b : ArchiveBack M) (e : Entry) (m : ℕ) → Plays told site h c b (e ∷ h) → topic_of e ≡ Some m
      → (m ≡ next_number h) ⊎ (call_asks c ≡ Some m)

  -- a call that is fit for what was seen is fit for each longer legal history whose new entries are about other mounts
  abbrev pub FitCallStays : Type 0
  FitCallStays =
      (site : Site) (newer h : History) (c : ArchiveCall M) → IsFitCall told site h c → IsLegal site (newer ++ h) → AreApart (call_asks c) newer
      → IsFitCall told site (newer ++ h) c
