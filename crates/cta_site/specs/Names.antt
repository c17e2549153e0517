-- Names: of virtual organisations, storage classes, tape pools, mount policies, libraries and drives, and the VIDs of tapes.
use Rattle.std.specs.Prelude.{ℕ, ◌≤◌, List, length, map, Bool, IsTrue, nat_le, ◌==◌, ◌&&◌, ◌||◌}
use Rattle.std.specs.List.{AllByRecursion}
use Rattle.std.specs.List.Sorted.{IsStrictlySortedBy}
use Rattle.std.specs.Ordering.{nat_cmp}
use Rattle.std.specs.Cmp.Lexicographic.{slice_cmp}
use Rattle.cta_site.specs.declared.site.Site.{Site}
use Rattle.cta_site.specs.declared.site.Vo.{Vo}
use Rattle.cta_site.specs.declared.site.Class.{Class}
use Rattle.cta_site.specs.declared.site.TapePool.{TapePool}
use Rattle.cta_site.specs.declared.site.Policy.{Policy}
use Rattle.cta_site.specs.declared.site.Tape.{Tape}
use Rattle.cta_site.specs.declared.site.Drive.{Drive}
use Rattle.cta_site.specs.declared.site.Directory.{Directory}

-- a byte of a name is an ASCII digit, a capital letter, a small letter, `_`, `-` or `.`
abbrev pub is_name_byte : ℕ → Bool
is_name_byte b = nat_le 48 b && nat_le b 57 || nat_le 65 b && nat_le b 90 || nat_le 97 b && nat_le b 122 || b == 95 || b == 45 || b == 46

-- a name has 1 to 64 bytes, each a byte of a name
pub record IsName (name : List ℕ) : Type 0 where
  pub some : 1 ≤ length name
  pub at_most : length name ≤ 64
  pub bytes : AllByRecursion (λ b. IsTrue (is_name_byte b)) name

-- the names ascend in byte order, so no two are equal
abbrev pub AreAscending : List (List ℕ) → Type 0
AreAscending names = IsStrictlySortedBy (slice_cmp nat_cmp) names

-- the names of the virtual organisations, in the order of their numbers
abbrev pub vo_names : Site → List (List ℕ)
vo_names site = map (λ (v : Vo). v.name) site.vos.items

-- the names of the storage classes
abbrev pub class_names : Site → List (List ℕ)
class_names site = map (λ (c : Class). c.name) site.classes.items

-- the names of the tape pools
abbrev pub pool_names : Site → List (List ℕ)
pool_names site = map (λ (p : TapePool). p.name) site.pools.items

-- the names of the mount policies
abbrev pub policy_names : Site → List (List ℕ)
policy_names site = map (λ (p : Policy). p.name) site.policies.items

-- the VIDs of the tapes
abbrev pub vids : Site → List (List ℕ)
vids site = map (λ (t : Tape). t.vid) site.tapes.items

-- the names of the drives
abbrev pub drive_names : Site → List (List ℕ)
drive_names site = map (λ (d : Drive). d.name) site.drives.items

-- the paths of the directories
abbrev pub directory_paths : Site → List (List ℕ)
directory_paths site = map (λ (d : Directory). d.path) site.directories.items
