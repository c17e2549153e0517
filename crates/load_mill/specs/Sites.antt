-- The site of a mill.
use Rattle.std.specs.Prelude.{ℕ, ◌^◌, List, [], ◌∷◌, codes}
use Rattle.cta_site.specs.Listed.{rows}
use Rattle.cta_site.specs.declared.site.Site.{Site}
use Rattle.cta_site.specs.declared.site.Limits.{Limits}
use Rattle.cta_site.specs.declared.site.TapePool.{TapePool}
use Rattle.cta_site.specs.declared.site.Route.{Route}
use Rattle.cta_site.specs.declared.site.Tape.{Tape}
use Rattle.cta_site.specs.declared.site.TapeState.TheVariants.{Active}
use Rattle.cta_site.specs.declared.site.Drive.{Drive}

-- its limits
abbrev pub mill_limits : Limits
mill_limits = record { buffer = 67108864; file = 67108864; archive_bytes = 100; retrieve_bytes = 100; archive_files = 1; retrieve_files = 1; batch_files = 100; tries = 3; history = 1000000; lifetime = 60 }

-- a pool
abbrev pub pool_called : List ℕ → TapePool
pool_called name = record { name = name; vo = codes "atlas" }

-- the route of a copy
abbrev pub route_to : ℕ → List ℕ → Route
route_to copy pool = record { class = codes "raw"; copy = copy; pool = pool }

-- an active tape of a pool
abbrev pub tape_called : List ℕ → List ℕ → Tape
tape_called vid pool = record { vid = vid; pool = pool; library = codes "L1"; capacity = 2 ^ 40; state = Active }

-- a drive
abbrev pub drive_called : List ℕ → Drive
drive_called name = record { name = name; library = codes "L1" }

-- the site of a mill: one class of two copies under one directory, two pools with two tapes each, and four drives
abbrev pub mill_site : Site
mill_site = record {
  version = 1;
  sitename = codes "T1";
  endpoint = codes "https://tape.example.org/api/v1";
  default_policy = codes "std";
  repack_policy = codes "std";
  limits = mill_limits;
  vos = rows (record { name = codes "atlas"; read_drives = 4; write_drives = 4 } ∷ []);
  classes = rows (record { name = codes "raw"; vo = codes "atlas"; copies = 2 } ∷ []);
  pools = rows (pool_called (codes "p1") ∷ pool_called (codes "p2") ∷ []);
  routes = rows (route_to 1 (codes "p1") ∷ route_to 2 (codes "p2") ∷ []);
  policies = rows (record { name = codes "std"; archive_priority = 1; archive_min_age = 10; retrieve_priority = 1; retrieve_min_age = 10 } ∷ []);
  rules = rows [];
  libraries = rows (codes "L1" ∷ []);
  tapes = rows (tape_called (codes "V1") (codes "p1") ∷ tape_called (codes "V2") (codes "p2") ∷ tape_called (codes "V3") (codes "p1") ∷ tape_called (codes "V4") (codes "p2") ∷ []);
  drives = rows (drive_called (codes "d1") ∷ drive_called (codes "d2") ∷ drive_called (codes "d3") ∷ drive_called (codes "d4") ∷ []);
  directories = rows (record { path = codes "/mill"; class = codes "raw" } ∷ []);
  failures = rows [];
}
