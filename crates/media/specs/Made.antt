-- What a bench makes.
use Rattle.std.specs.Prelude.{ℕ, ◌≡◌, List, Option, IfSome, Bool, true, false, bytes_eq, IsSome, filter, map}
use Rattle.blob.specs.Records.{MediumView}
use Rattle.cta_site.specs.declared.site.Site.{Site}
use Rattle.cta_site.specs.declared.site.Failure.{Failure}
use Rattle.cta_site.specs.Lookups.{drive_name}
use Rattle.media.specs.declared.planned.Planned.{Planned}
use Rattle.media.specs.Counted.{no_counts}
use Rattle.media.specs.Drives.{DriveView}
use Rattle.media.specs.Memory.{alters_none}
use Rattle.media.specs.Records.{no_records}

-- a site's failure as a planned call of its drive
abbrev pub planned_of : Failure → Planned
planned_of f = record { call = f.call; number = f.number; alter = f.alter }

-- the failures that are planned for the drive of this name, in their order
abbrev pub planned_for : List ℕ → List Failure → List Planned
planned_for name failures = map planned_of (filter (λ (f : Failure). bytes_eq f.drive name) failures)

-- the site's plan for a drive
abbrev pub plan_of : Site → ℕ → List Planned
plan_of site d = planned_for (drive_name site d) site.failures.items

-- a new drive is not loaded and was not called, and where it tells its plan it has the site's and made no call; of a bench that tells it is honest where that plan alters no read
pub record IsNewDrive (tells : Bool) (site : Site) (d : ℕ) (drive : DriveView) : Type 0 where
  pub unloaded : drive.loaded ≡ false
  pub uncalled : drive.calls ≡ 0
  pub plan : IfSome drive.plan (λ p. p ≡ record { entries = plan_of site d; made = no_counts })
  pub told : tells ≡ true → IsSome drive.plan
  pub honest : tells ≡ true → alters_none (plan_of site d) ≡ true → drive.honest ≡ true

-- a new medium has its tape's number on its label, and no records where it tells them
pub record IsNewMedium (tells : Bool) (tape : ℕ) (m : MediumView) : Type 0 where
  pub label : m.label ≡ tape
  pub empty : IfSome m.records (λ t. t ≡ no_records)
  pub shown : tells ≡ true → IsSome m.records
