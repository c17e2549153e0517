-- What follows from the rules of a valid site.
use Rattle.std.specs.Prelude.{◌≡◌, ℕ, ◌<◌, ◌≤◌, List, length, Some}
use Rattle.cta_site.specs.declared.site.Site.{Site}
use Rattle.cta_site.specs.Names.{IsName}
use Rattle.cta_site.specs.Lookups.{class_of, copies_of, copies_of_class, policy_of, pool_of, HasRoute, drive_of, drive_name, tape_of, vid_of}

-- each drive's name has the form of a name and is the name of no other drive
abbrev pub DrivesAreNamed : Site → Type 0
DrivesAreNamed site = (drive : ℕ) → drive < length site.drives.items → IsName (drive_name site drive) × (drive_of site (drive_name site drive) ≡ Some drive)

-- a name that a drive is found by is that drive's
abbrev pub DrivesAreFound : Site → Type 0
DrivesAreFound site = (name : List ℕ) (drive : ℕ) → drive_of site name ≡ Some drive → (drive < length site.drives.items) × (drive_name site drive ≡ name)

-- each tape's VID has the form of a name and is the VID of no other tape
abbrev pub TapesAreNamed : Site → Type 0
TapesAreNamed site = (tape : ℕ) → tape < length site.tapes.items → IsName (vid_of site tape) × (tape_of site (vid_of site tape) ≡ Some tape)

-- a VID that a tape is found by is that tape's
abbrev pub TapesAreFound : Site → Type 0
TapesAreFound site = (vid : List ℕ) (tape : ℕ) → tape_of site vid ≡ Some tape → (tape < length site.tapes.items) × (vid_of site tape ≡ vid)

-- the class of a path is one of the site's, and has 1 to 4 copies
abbrev pub ClassesAreKnown : Site → Type 0
ClassesAreKnown site = (path : List ℕ) (class : ℕ) → class_of site path ≡ Some class → (class < length site.classes.items) × (1 ≤ copies_of site path) × (copies_of site path ≤ 4)

-- a caller's policy is one of the site's
abbrev pub PoliciesAreKnown : Site → Type 0
PoliciesAreKnown site = (requester group : List ℕ) → policy_of site requester group < length site.policies.items

-- each copy of a class has a route, which goes to a pool of the site
abbrev pub CopiesAreRouted : Site → Type 0
CopiesAreRouted site = (class copy : ℕ) → class < length site.classes.items → 1 ≤ copy → copy ≤ copies_of_class site (Some class) → HasRoute site class copy × (pool_of site class copy < length site.pools.items)

-- two copies of a class whose routes go to one pool are the same copy
abbrev pub RoutesGoApart : Site → Type 0
RoutesGoApart site = (class c d : ℕ) → HasRoute site class c → HasRoute site class d → pool_of site class c ≡ pool_of site class d → c ≡ d
