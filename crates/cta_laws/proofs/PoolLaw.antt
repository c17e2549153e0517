-- The key of a live archive job is a pool of the site.
use Rattle.std.proofs.Common.{◌≡◌, ◌<◌, ◌≤◌, ℕ, zero, suc, List, Option, Some, None, length, refl, subst, arith}
use Rattle.std.specs.Prelude.{option_map}
use Rattle.cta_site.specs.declared.site.Site.{Site}
use Rattle.cta_site.specs.Laws.{ClassesAreKnown, CopiesAreRouted}
use Rattle.cta_site.specs.Lookups.{class_of, copies_of, copies_of_class, pool_of}
use Rattle.cta_site.specs.ValidSite.{IsValidSite}
use Rattle.cta_model.specs.declared.asks.Job.{Job}
use Rattle.cta_model.specs.History.{History}
use Rattle.cta_model.specs.Files.{path_of}
use Rattle.cta_model.specs.Queues.{key_by, pool_of_job}
use Rattle.cta_laws.specs.Jobs.{ArchiveKeyIsPool}
use Rattle.cta_laws.proofs.RangeLaw.{job_range}

pub by_pool : (site : Site) (h : History) (j : Job) (c key : ℕ) → 1 ≤ c → key_by c site h j ≡ Some key → pool_of_job site h j ≡ Some key
by_pool site h j zero key from e = absurd (omega arith)
by_pool site h j (suc c) key from e = e

module _ (known : (site : Site) → IsValidSite site → ClassesAreKnown site) (routed : (site : Site) → IsValidSite site → CopiesAreRouted site) where
  in_class : (site : Site) (path : List ℕ) (copy key : ℕ) (o : Option ℕ) → IsValidSite site → class_of site path ≡ o → 1 ≤ copy → copy ≤ copies_of site path → option_map (λ class. pool_of site class copy) o ≡ Some key → key < length site.pools.items
  in_class site path copy key None valid is from to e = absurd (cc)
  in_class site path copy key (Some class) valid is from to e =
      let low = (known site valid path class is).0 in
      let most : copy ≤ copies_of_class site (Some class) = subst (λ o. copy ≤ copies_of_class site o) is to in
      let same : pool_of site class copy ≡ key = cc in
      subst (λ n. n < length site.pools.items) same (routed site valid class copy low from most).1

  pub archive_key_is_pool : ArchiveKeyIsPool
  archive_key_is_pool site h valid legal j key from live is =
      in_class site (path_of h j.file) j.copy key (class_of site (path_of h j.file)) valid refl from (job_range site h legal j live).2 (by_pool site h j j.copy key from is)
