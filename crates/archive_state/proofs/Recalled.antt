-- What a Recalled names, told by the parts.
use Rattle.std.proofs.Common.{◌≡◌, ◌∙◌, ℕ, [], ◌∷◌, Bool, true, false, ◌&&◌, arith}
use Rattle.cta_site.specs.declared.site.Site.{Site}
use Rattle.cta_model.specs.declared.asks.Job.{Job}
use Rattle.cta_model.specs.Answers.{is_known}
use Rattle.cta_model.specs.History.{History}
use Rattle.cta_model.specs.Legal.{IsLegal}
use Rattle.part_model.specs.Mounts.{has_mount}
use Rattle.part_laws.specs.Sessions.{claims_told}
use Rattle.archive_parts.specs.PartsKept.{ArePartsKept}
use Rattle.archive_parts.specs.declared.parts.ArchiveParts.{ArchiveParts}
use Rattle.archive_state.proofs.KnownJobs.{jobs_none, jobs_there}

one_job : (b : Bool) → b ≡ ((b && true) && true)
one_job b = grind arith

-- the mount is open
pub job_there : (site : Site) (h : History) (p : ArchiveParts) (m : ℕ) (j : Job) → IsLegal site h → ArePartsKept site h p → has_mount m p.mounts.value.rows ≡ true → claims_told p.book.value m j ≡ is_known h m (j ∷ [])
job_there site h p m j legal kept has = one_job (claims_told p.book.value m j) ∙ jobs_there site h p m (j ∷ []) legal kept has

-- it is not
pub job_none : (site : Site) (h : History) (p : ArchiveParts) (m : ℕ) (j : Job) → ArePartsKept site h p → has_mount m p.mounts.value.rows ≡ false → false ≡ is_known h m (j ∷ [])
job_none site h p m j kept none = jobs_none site h p m (j ∷ []) kept none
