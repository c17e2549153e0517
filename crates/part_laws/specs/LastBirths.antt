-- The last job that was born for a copy, and what is told of it.
use Rattle.std.specs.Prelude.{ℕ, ◌≡◌, List, [], ◌∷◌, Option, Some, None, if◌then◌else◌, map}
use Rattle.cta_site.specs.declared.site.Site.{Site}
use Rattle.cta_model.specs.History.{History, next_number, is_number}
use Rattle.cta_model.specs.Charges.{charges_of}
use Rattle.cta_model.specs.Stages.{charge_text}
use Rattle.cta_model.specs.Jobs.{live_birth}
use Rattle.cta_model.specs.Mounts.{job_of}
use Rattle.cta_model.specs.Reports.{errors_of_last, jobs_of_copy}
use Rattle.cta_model.specs.Legal.{IsLegal}

-- the birth of the last job that was born for a copy of a file, none where none was
abbrev pub last_birth : Site → History → ℕ → ℕ → Option ℕ
last_birth site [] f c = None
last_birth site (e ∷ h) f c = if is_number (next_number h) (live_birth site (e ∷ h) f c) then Some (next_number h) else last_birth site h f c

-- the errors of the job of this birth
abbrev pub errors_by : Site → History → ℕ → ℕ → Option ℕ → List (List ℕ)
errors_by site h f c None = []
errors_by site h f c (Some b) = map (charge_text site) (charges_of h (job_of b f c))

-- in a legal history the errors told of a failed copy are the charges of the job with the last birth
abbrev pub LastBirthTellsErrors : Type 0
LastBirthTellsErrors =
    (site : Site) (h : History) → IsLegal site h → (f c : ℕ)
    → errors_of_last site h (jobs_of_copy site h f c) ≡ errors_by site h f c (last_birth site h f c)
