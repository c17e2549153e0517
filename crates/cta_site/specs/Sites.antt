-- Two sites that keep the rules: a smallest one, and a larger one.
use Rattle.std.specs.Prelude.{ℕ, List, [], ◌∷◌, true, false, codes}
use Rattle.cta_values.specs.Listed.{rows}
use Rattle.cta_site.specs.declared.site.Site.{Site}
use Rattle.cta_site.specs.declared.site.Limits.{Limits}
use Rattle.cta_site.specs.declared.site.Vo.{Vo}
use Rattle.cta_site.specs.declared.site.Class.{Class}
use Rattle.cta_site.specs.declared.site.TapePool.{TapePool}
use Rattle.cta_site.specs.declared.site.Route.{Route}
use Rattle.cta_site.specs.declared.site.Policy.{Policy}
use Rattle.cta_site.specs.declared.site.Tape.{Tape}
use Rattle.cta_site.specs.declared.site.TapeState.TheVariants.{Active, Repacking}
use Rattle.cta_site.specs.declared.site.RuleKind.TheVariants.{Requester, Group}
use Rattle.cta_site.specs.declared.site.CallKind.TheVariants.{Flush, Read}
use Rattle.cta_site.specs.declared.site.Drive.{Drive}
use Rattle.cta_site.specs.declared.site.Directory.{Directory}

-- its limits
abbrev pub small_limits : Limits
small_limits = record { buffer = 1000; file = 1000; archive_bytes = 100; retrieve_bytes = 100; archive_files = 1; retrieve_files = 1; batch_files = 10; tries = 3; history = 1000; lifetime = 60 }

-- its one virtual organisation
abbrev pub small_vo : Vo
small_vo = record { name = codes "atlas"; read_drives = 1; write_drives = 1 }

-- its one storage class
abbrev pub small_class : Class
small_class = record { name = codes "raw"; vo = codes "atlas"; copies = 1 }

-- its one tape pool
abbrev pub small_pool : TapePool
small_pool = record { name = codes "p1"; vo = codes "atlas" }

-- its one archive route
abbrev pub small_route : Route
small_route = record { class = codes "raw"; copy = 1; pool = codes "p1" }

-- its one mount policy
abbrev pub small_policy : Policy
small_policy = record { name = codes "std"; archive_priority = 1; archive_min_age = 10; retrieve_priority = 1; retrieve_min_age = 10 }

-- its one tape
abbrev pub small_tape : Tape
small_tape = record { vid = codes "V1"; pool = codes "p1"; library = codes "L1"; capacity = 1000; state = Active }

-- its one drive
abbrev pub small_drive : Drive
small_drive = record { name = codes "d1"; library = codes "L1" }

-- its one directory
abbrev pub small_directory : Directory
small_directory = record { path = codes "/atlas"; class = codes "raw" }

-- the smallest site that can store a file: one of each that it needs
abbrev pub small_site : Site
small_site = record {
  version = 1;
  sitename = codes "T1";
  endpoint = codes "https://tape.example.org/api/v1";
  default_policy = codes "std";
  repack_policy = codes "std";
  limits = small_limits;
  vos = rows (small_vo ∷ []);
  classes = rows (small_class ∷ []);
  pools = rows (small_pool ∷ []);
  routes = rows (small_route ∷ []);
  policies = rows (small_policy ∷ []);
  rules = rows [];
  libraries = rows (codes "L1" ∷ []);
  tapes = rows (small_tape ∷ []);
  drives = rows (small_drive ∷ []);
  directories = rows (small_directory ∷ []);
  failures = rows [];
}

-- ---- a larger site

-- a virtual organisation with four drives in each direction
abbrev pub vo_called : List ℕ → Vo
vo_called name = record { name = name; read_drives = 4; write_drives = 4 }

-- a storage class of this virtual organisation
abbrev pub class_called : List ℕ → List ℕ → ℕ → Class
class_called name vo copies = record { name = name; vo = vo; copies = copies }

-- a pool of this virtual organisation
abbrev pub pool_called : List ℕ → List ℕ → TapePool
pool_called name vo = record { name = name; vo = vo }

-- a route
abbrev pub route_for : List ℕ → ℕ → List ℕ → Route
route_for class copy pool = record { class = class; copy = copy; pool = pool }

-- a policy of this name
abbrev pub policy_called : List ℕ → Policy
policy_called name = record small_policy { name = name }

-- an active tape of 20 TB
abbrev pub tape_called : List ℕ → List ℕ → List ℕ → Tape
tape_called vid pool library = record { vid = vid; pool = pool; library = library; capacity = 20000000000000; state = Active }

-- a drive
abbrev pub drive_called : List ℕ → List ℕ → Drive
drive_called name library = record { name = name; library = library }

-- a directory
abbrev pub directory_called : List ℕ → List ℕ → Directory
directory_called path class = record { path = path; class = class }

-- a site of two virtual organisations, with classes of one to four copies, several of everything, and each optional list used
abbrev pub large_site : Site
large_site = record small_site {
  default_policy = codes "bulk";
  repack_policy = codes "slow";
  vos = rows (vo_called (codes "atlas") ∷ vo_called (codes "lhcb") ∷ []);
  classes = rows (class_called (codes "four") (codes "atlas") 4 ∷ class_called (codes "one") (codes "lhcb") 1 ∷ class_called (codes "three") (codes "atlas") 3 ∷ class_called (codes "two") (codes "lhcb") 2 ∷ []);
  pools = rows (pool_called (codes "a1") (codes "atlas") ∷ pool_called (codes "a2") (codes "atlas") ∷ pool_called (codes "a3") (codes "atlas") ∷ pool_called (codes "a4") (codes "atlas") ∷ pool_called (codes "l1") (codes "lhcb") ∷ pool_called (codes "l2") (codes "lhcb") ∷ []);
  routes = rows (route_for (codes "two") 2 (codes "l2") ∷ route_for (codes "two") 1 (codes "l1") ∷ route_for (codes "one") 1 (codes "l1")
      ∷ route_for (codes "three") 1 (codes "a1") ∷ route_for (codes "three") 2 (codes "a2") ∷ route_for (codes "three") 3 (codes "a3")
      ∷ route_for (codes "four") 1 (codes "a1") ∷ route_for (codes "four") 2 (codes "a2") ∷ route_for (codes "four") 3 (codes "a3") ∷ route_for (codes "four") 4 (codes "a4") ∷ []);
  policies = rows (policy_called (codes "bulk") ∷ policy_called (codes "fast") ∷ policy_called (codes "slow") ∷ []);
  rules = rows (record { kind = Requester; name = codes "alice"; policy = codes "fast" } ∷ record { kind = Group; name = codes "alice"; policy = codes "slow" } ∷ record { kind = Group; name = codes "atlas"; policy = codes "bulk" } ∷ []);
  libraries = rows (codes "L1" ∷ codes "L2" ∷ []);
  tapes = rows (tape_called (codes "V1") (codes "a1") (codes "L1") ∷ tape_called (codes "V2") (codes "a2") (codes "L2") ∷ record (tape_called (codes "V3") (codes "l1") (codes "L1")) { state = Repacking } ∷ []);
  drives = rows (drive_called (codes "d1") (codes "L1") ∷ drive_called (codes "d2") (codes "L2") ∷ []);
  directories = rows (directory_called (codes "/atlas/raw") (codes "four") ∷ directory_called (codes "/atlas") (codes "three") ∷ directory_called (codes "/lhcb") (codes "two") ∷ directory_called (codes "/lhcb/user") (codes "one") ∷ []);
  failures = rows (record { drive = codes "d1"; call = Flush; number = 1; alter = false } ∷ record { drive = codes "d2"; call = Read; number = 2; alter = true } ∷ []);
}
