-- Charges: which failures a job has been charged for.
use Rattle.std.specs.Prelude.{ℕ, ◌+◌, length, List, [], ◌∷◌, ◌++◌, Bool, false, if◌then◌else◌, ◌&&◌, nat_le}
use Rattle.cta_site.specs.declared.site.Site.{Site}
use Rattle.cta_model.specs.declared.asks.Ask.{Ask}
use Rattle.cta_model.specs.declared.asks.Ask.TheVariants as ask
use Rattle.cta_model.specs.declared.asks.Job.{Job}
use Rattle.cta_model.specs.declared.states.Charge.{Charge}
use Rattle.cta_model.specs.History.{History}
use Rattle.cta_model.specs.Mounts.{has_job, asked_mount, drive_of_mount, tape_of_mount}

-- the charges of a job after an ask: one more, with this drive and tape, where the ask is a Failed that charges the job
abbrev pub charges_after : Ask → Job → ℕ → ℕ → List Charge → List Charge
charges_after (ask.Failed m fault charged returned) j d v before = if has_job j charged.items then before ++ record { drive = d; tape = v; fault = fault } ∷ [] else before
charges_after _ j d v before = before

-- the charges of a job, oldest first: the drive, tape and fault of each Failed that names it among the charged
abbrev pub charges_of : History → Job → List Charge
charges_of [] j = []
charges_of (e ∷ h) j = charges_after e.ask j (drive_of_mount h (asked_mount e.ask)) (tape_of_mount h (asked_mount e.ask)) (charges_of h j)

-- whether an ask charges the job for the last time: its charges reach the limit `tries`
abbrev pub is_last_charge : Site → History → Ask → Job → Bool
is_last_charge site h (ask.Failed m fault charged returned) j = has_job j charged.items && nat_le site.limits.tries (length (charges_of h j) + 1)
is_last_charge site h _ j = false
