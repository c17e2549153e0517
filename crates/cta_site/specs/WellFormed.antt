-- What follows from the rules of a valid site, part by part: ranges of its limits, counts, forms and orders of names, copies, and that what is named is there.
use Rattle.std.specs.Prelude.{ℕ, ◌≤◌, List, length, IsSome}
use Rattle.std.specs.List.{AllByRecursion}
use Rattle.cta_site.specs.declared.site.Site.{Site}
use Rattle.cta_site.specs.declared.site.Limits.{Limits}
use Rattle.cta_site.specs.declared.site.Vo.{Vo}
use Rattle.cta_site.specs.declared.site.Class.{Class}
use Rattle.cta_site.specs.declared.site.TapePool.{TapePool}
use Rattle.cta_site.specs.declared.site.Route.{Route}
use Rattle.cta_site.specs.declared.site.Policy.{Policy}
use Rattle.cta_site.specs.declared.site.Rule.{Rule}
use Rattle.cta_site.specs.declared.site.Tape.{Tape}
use Rattle.cta_site.specs.declared.site.Drive.{Drive}
use Rattle.cta_site.specs.declared.site.Directory.{Directory}
use Rattle.cta_site.specs.Lookups.{place_by}
use Rattle.cta_site.specs.Names.{IsName, AreAscending, vo_names, class_names, pool_names, policy_names, vids, drive_names}

-- each limit is in its range, and a file has room in the buffer
pub record AreLimits (limits : Limits) : Type 0 where
  pub buffer_from : 1 ≤ limits.buffer
  pub buffer_to : limits.buffer ≤ 2147483648
  pub file_to : limits.file ≤ 1073741824
  pub file_in_buffer : limits.file ≤ limits.buffer
  pub archive_bytes_from : 1 ≤ limits.archive_bytes
  pub archive_bytes_to : limits.archive_bytes ≤ 1125899906842624
  pub retrieve_bytes_from : 1 ≤ limits.retrieve_bytes
  pub retrieve_bytes_to : limits.retrieve_bytes ≤ 1125899906842624
  pub archive_files_from : 1 ≤ limits.archive_files
  pub archive_files_to : limits.archive_files ≤ 1000000
  pub retrieve_files_from : 1 ≤ limits.retrieve_files
  pub retrieve_files_to : limits.retrieve_files ≤ 1000000
  pub batch_files_from : 1 ≤ limits.batch_files
  pub batch_files_to : limits.batch_files ≤ 1000
  pub tries_from : 1 ≤ limits.tries
  pub tries_to : limits.tries ≤ 16
  pub history_from : 1 ≤ limits.history
  pub history_to : limits.history ≤ 1000000
  pub lifetime_to : limits.lifetime ≤ 3153600000

-- no list is longer than a site's may be
pub record AreCounts (site : Site) : Type 0 where
  pub vos : length site.vos.items ≤ 64
  pub classes : length site.classes.items ≤ 256
  pub pools : length site.pools.items ≤ 256
  pub routes : length site.routes.items ≤ 1024
  pub policies : length site.policies.items ≤ 64
  pub rules : length site.rules.items ≤ 1024
  pub libraries : length site.libraries.items ≤ 32
  pub tapes : length site.tapes.items ≤ 4096
  pub drives : length site.drives.items ≤ 64
  pub directories : length site.directories.items ≤ 1024
  pub failures : length site.failures.items ≤ 1024

-- each name and VID that an element defines has the form of a name
pub record AreNames (site : Site) : Type 0 where
  pub vos : AllByRecursion IsName (vo_names site)
  pub classes : AllByRecursion IsName (class_names site)
  pub pools : AllByRecursion IsName (pool_names site)
  pub policies : AllByRecursion IsName (policy_names site)
  pub libraries : AllByRecursion IsName site.libraries.items
  pub tapes : AllByRecursion IsName (vids site)
  pub drives : AllByRecursion IsName (drive_names site)

-- each numbered list is in byte order of its names, and no two names in it are equal
pub record AreNumbered (site : Site) : Type 0 where
  pub vos : AreAscending (vo_names site)
  pub classes : AreAscending (class_names site)
  pub pools : AreAscending (pool_names site)
  pub policies : AreAscending (policy_names site)
  pub libraries : AreAscending site.libraries.items
  pub tapes : AreAscending (vids site)
  pub drives : AreAscending (drive_names site)

-- a storage class has 1 to 4 copies
pub record HasCopies (class : Class) : Type 0 where
  pub from : 1 ≤ class.copies
  pub to : class.copies ≤ 4

-- a route is for copy 1 to 4
pub record HasCopy (route : Route) : Type 0 where
  pub from : 1 ≤ route.copy
  pub to : route.copy ≤ 4

-- the site has a virtual organisation of this name
abbrev pub HasVo : Site → List ℕ → Type 0
HasVo site name = IsSome (place_by (λ (v : Vo). v.name) site.vos.items name)

-- the site has a storage class of this name
abbrev pub HasClass : Site → List ℕ → Type 0
HasClass site name = IsSome (place_by (λ (c : Class). c.name) site.classes.items name)

-- the site has a tape pool of this name
abbrev pub HasPool : Site → List ℕ → Type 0
HasPool site name = IsSome (place_by (λ (p : TapePool). p.name) site.pools.items name)

-- the site has a mount policy of this name
abbrev pub HasPolicy : Site → List ℕ → Type 0
HasPolicy site name = IsSome (place_by (λ (p : Policy). p.name) site.policies.items name)

-- the site has a library of this name
abbrev pub HasLibrary : Site → List ℕ → Type 0
HasLibrary site name = IsSome (place_by (λ (n : List ℕ). n) site.libraries.items name)

-- each name by which one element speaks of another is that of an element of the site
pub record AreKnown (site : Site) : Type 0 where
  pub class_vos : AllByRecursion (λ (c : Class). HasVo site c.vo) site.classes.items
  pub pool_vos : AllByRecursion (λ (p : TapePool). HasVo site p.vo) site.pools.items
  pub route_classes : AllByRecursion (λ (r : Route). HasClass site r.class) site.routes.items
  pub route_pools : AllByRecursion (λ (r : Route). HasPool site r.pool) site.routes.items
  pub default_policy : HasPolicy site site.default_policy
  pub repack_policy : HasPolicy site site.repack_policy
  pub rule_policies : AllByRecursion (λ (r : Rule). HasPolicy site r.policy) site.rules.items
  pub tape_pools : AllByRecursion (λ (t : Tape). HasPool site t.pool) site.tapes.items
  pub tape_libraries : AllByRecursion (λ (t : Tape). HasLibrary site t.library) site.tapes.items
  pub drive_libraries : AllByRecursion (λ (d : Drive). HasLibrary site d.library) site.drives.items
  pub directory_classes : AllByRecursion (λ (d : Directory). HasClass site d.class) site.directories.items

-- a valid site has these parts
pub record IsWellFormed (site : Site) : Type 0 where
  pub limits : AreLimits site.limits
  pub counts : AreCounts site
  pub names : AreNames site
  pub numbered : AreNumbered site
  pub copies : AllByRecursion HasCopies site.classes.items
  pub routes : AllByRecursion HasCopy site.routes.items
  pub known : AreKnown site
