-- Laws of mounts.
use Rattle.std.specs.Prelude.{ℕ, ◌≡◌, ◌≤◌, [], ◌∷◌, ◌++◌, Option, Some, Bool, true, false, ◌==◌, not}
use Rattle.std.specs.List.{list_all}
use Rattle.cta_site.specs.declared.site.Site.{Site}
use Rattle.cta_model.specs.declared.entries.Entry.{Entry}
use Rattle.cta_model.specs.declared.asks.Ask.TheVariants as ask
use Rattle.cta_model.specs.declared.asks.Direction.{Direction}
use Rattle.cta_model.specs.declared.asks.Fault.{Fault}
use Rattle.cta_model.specs.declared.answers.Answer.TheVariants as answer
use Rattle.cta_model.specs.declared.states.Candidate.{Candidate}
use Rattle.cta_model.specs.declared.states.Place.{Place}
use Rattle.cta_model.specs.History.{History, next_number}
use Rattle.cta_model.specs.Mounts.{is_open, asked_mount, tape_of_mount, claimed_items}
use Rattle.cta_model.specs.Tapes.{tape_items}
use Rattle.cta_model.specs.Places.{place_of}
use Rattle.cta_model.specs.Choice.{mounts_of_vo, quota_of, mount_choice}
use Rattle.cta_model.specs.Legal.{IsLegal}

-- wherever a legal history is cut, the open mounts of a VO in one direction are at most its quota
abbrev pub KeepsQuota : Type 0
KeepsQuota =
    (site : Site) (newer h : History) → IsLegal site (newer ++ h) → (way : Direction) (vo : ℕ) → mounts_of_vo site h way vo ≤ quota_of site way vo

-- each Next of a legal history mounts the choice at its place
abbrev pub MountsChoice : Type 0
MountsChoice =
    (site : Site) (newer h : History) (e : Entry) (d : ℕ) → IsLegal site (newer ++ e ∷ h) → e.ask ≡ ask.Next d
    → (c : Candidate) × (mount_choice site h e.at d ≡ Some c) × (e.answer ≡ answer.Mounted (next_number h) c.direction c.tape)

-- in a legal history a mount is not open after its End, and claims nothing
abbrev pub ClaimsNothingAfterEnd : Type 0
ClaimsNothingAfterEnd =
    (site : Site) (newer h : History) (e : Entry) (m : ℕ) (fault : Option Fault) → IsLegal site (newer ++ e ∷ h) → e.ask ≡ ask.End m fault
    → (is_open (newer ++ e ∷ h) m ≡ false) × (claimed_items (newer ++ e ∷ h) m ≡ [])

-- no entry is about this mount
abbrev pub are_about_others : ℕ → History → Bool
are_about_others m newer = list_all (λ (e : Entry). not (asked_mount e.ask == m)) newer

-- what a mount that is open in h keeps in a longer history: it is open and claims the same, the items of its tape are those of
-- before, and each place on its tape was one before
pub record IsMountKept (longer h : History) (m : ℕ) : Type 0 where
  pub still_open : is_open longer m ≡ true
  pub same_tape : tape_of_mount longer m ≡ tape_of_mount h m
  pub same_claims : claimed_items longer m ≡ claimed_items h m
  pub same_items : tape_items longer (tape_of_mount h m) ≡ tape_items h (tape_of_mount h m)
  pub old_places : (f c : ℕ) (p : Place) → p.tape ≡ tape_of_mount h m → place_of longer f c ≡ Some p → place_of h f c ≡ Some p

-- an open mount stays in each longer legal history whose new entries are about others
abbrev pub OpenMountStays : Type 0
OpenMountStays =
    (site : Site) (newer h : History) (m : ℕ) → IsLegal site (newer ++ h) → is_open h m ≡ true → are_about_others m newer ≡ true → IsMountKept (newer ++ h) h m

-- in a legal history two open mounts have two tapes
abbrev pub TapesAreMountedOnce : Type 0
TapesAreMountedOnce =
    (site : Site) (h : History) → IsLegal site h → (m n : ℕ) → is_open h m ≡ true → is_open h n ≡ true → tape_of_mount h m ≡ tape_of_mount h n → m ≡ n
