-- What all parts stand for, and the calls for an entry.
use Rattle.std.specs.Prelude.{ℕ, ◌≡◌}
use Rattle.cta_site.specs.declared.site.Site.{Site}
use Rattle.cta_model.specs.declared.entries.Entry.{Entry}
use Rattle.cta_model.specs.History.{History, has_number}
use Rattle.part_laws.specs.Mounts.{AreDown, AreOpenMounts, downs_after, rows_after}
use Rattle.part_laws.specs.JobParts.{JobPartsStand}
use Rattle.part_laws.specs.AllAsks.{parts_after}
use Rattle.part_laws.specs.Failed.{failed_after, failed_jobs}
use Rattle.part_laws.specs.SpaceParts.{AreParts, ArePartsCalled}
use Rattle.part_laws.specs.AllParts.{AllParts, TellSameJobs, jobs_in}

-- all parts stand for a history
pub record Stands (site : Site) (h : History) (v : AllParts) : Type 0 where
  pub space : AreParts site h v.space
  pub jobs : JobPartsStand site h (jobs_in v)
  pub mounts : AreOpenMounts site h v.mounts
  pub downs : AreDown h v.downs
  pub failed : v.failed ≡ failed_jobs site h

-- the calls for the entry e are made, on each of the parts
pub record AreCalled (site : Site) (h : History) (e : Entry) (v v' : AllParts) : Type 0 where
  pub space : ArePartsCalled site h e v.space v'.space
  pub jobs : TellSameJobs (jobs_in v') (parts_after site h e e.ask e.answer (jobs_in v))
  pub mounts : v'.mounts ≡ rows_after site e.ask e.answer v.mounts
  pub downs : (d : ℕ) → has_number d v'.downs ≡ has_number d (downs_after e.ask v.mounts v.downs)
  pub failed : v'.failed ≡ failed_after site h e.ask e.answer v.failed
