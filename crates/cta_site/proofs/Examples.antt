-- Worked examples.
use Rattle.std.proofs.Common.{◌≡◌, ◌+◌, ◌<◌, ◌&&◌, ℕ, zero, suc, Bool, false, not, length, get_or, arith, List, Some, None, true, [], ◌∷◌, codes, refl}
use Rattle.std.specs.Cmp.Lexicographic.{slice_cmp}
use Rattle.std.specs.List.Sorted.{IsSortedBy}
use Rattle.std.specs.Ordering.{is_lt, nat_cmp}
use Rattle.std.proofs.lemmas.Bool.{and_parts}
use Rattle.cta_site.specs.declared.site.Site.{Site}
use Rattle.cta_site.specs.declared.site.Vo.{Vo}
use Rattle.cta_site.specs.declared.site.Class.{Class}
use Rattle.cta_site.specs.declared.site.TapePool.{TapePool}
use Rattle.cta_site.specs.declared.site.Tape.{Tape}
use Rattle.cta_site.specs.declared.site.Drive.{Drive}
use Rattle.cta_site.specs.declared.site.TapeState.TheVariants.{Active}
use Rattle.cta_site.specs.declared.site.Directory.{Directory}
use Rattle.cta_site.specs.declared.site.Policy.{Policy}
use Rattle.cta_site.specs.declared.site.Rule.{Rule}
use Rattle.cta_site.specs.declared.site.RuleKind.{RuleKind}
use Rattle.cta_site.specs.declared.site.RuleKind.TheVariants.{Requester, Group}
use Rattle.cta_values.specs.Listed.{rows}
use Rattle.cta_values.specs.ByName.{IsByName}
use Rattle.cta_site.specs.Numbering.{IsInOrder}
use Rattle.cta_site.proofs.Sets.{false_from_not}
use Rattle.cta_site.specs.ValidSite.{IsValidSite}
use Rattle.cta_site.specs.Sites.{small_site, small_directory, small_policy, large_site}
use Rattle.cta_site.specs.Lookups.{class_of, directory_of, copies_of, drive_of, drive_name, tape_of, policy_of, pool_of, vo_of_pool, capacity_of, first_state, is_in_reach}

-- no item of a list is below the one before it
abbrev pub steps_up : {A : Type 0} → (A → A → Bool) → List A → Bool
steps_up below [] = true
steps_up below (x ∷ []) = true
steps_up below (x ∷ y ∷ ys) = not (below y x) && steps_up below (y ∷ ys)

one_more : {A : Type 0} (below : A → A → Bool) (x y : A) (ys : List A) → below y x ≡ false → IsSortedBy below (y ∷ ys) → (k : ℕ) (d : A) → k + 1 < length (x ∷ y ∷ ys) → below (get_or (x ∷ y ∷ ys) (k + 1) d) (get_or (x ∷ y ∷ ys) k d) ≡ false
one_more below x y ys first rest zero d high = first
one_more below x y ys first rest (suc k) d high =
    let next : suc k + 1 ≡ suc (k + 1) = omega arith in
    rw next (rest k d (omega arith) (omega arith))

sorted_from : {A : Type 0} (below : A → A → Bool) (xs : List A) → steps_up below xs ≡ true → IsSortedBy below xs
sorted_from below [] e = λ k d low high. absurd (omega arith)
sorted_from below (x ∷ []) e = λ k d low high. absurd (omega arith)
sorted_from below (x ∷ y ∷ ys) e =
    let parts = and_parts (not (below y x)) (steps_up below (y ∷ ys)) e in
    let rest = sorted_from below (y ∷ ys) parts.1 in
    λ k d low high. one_more below x y ys (false_from_not (below y x) parts.0) rest k d high

pub by_name : {A : Type 0} (name : A → List ℕ) (xs : List A) → steps_up (λ x y. is_lt (slice_cmp nat_cmp (name x) (name y))) xs ≡ true → IsByName name xs
by_name name xs e = sorted_from (λ x y. is_lt (slice_cmp nat_cmp (name x) (name y))) xs e

small_in_order : IsInOrder small_site
small_in_order = record {
  vos = by_name (λ (v : Vo). v.name) small_site.vos.items refl;
  classes = by_name (λ (k : Class). k.name) small_site.classes.items refl;
  pools = by_name (λ (p : TapePool). p.name) small_site.pools.items refl;
  policies = by_name (λ (p : Policy). p.name) small_site.policies.items refl;
  libraries = by_name (λ (l : List ℕ). l) small_site.libraries.items refl;
  tapes = by_name (λ (t : Tape). t.vid) small_site.tapes.items refl;
  drives = by_name (λ (d : Drive). d.name) small_site.drives.items refl;
}

pub small_is_valid : IsValidSite small_site
small_is_valid = record { rules = refl; in_order = small_in_order }

large_in_order : IsInOrder large_site
large_in_order = record {
  vos = by_name (λ (v : Vo). v.name) large_site.vos.items refl;
  classes = by_name (λ (k : Class). k.name) large_site.classes.items refl;
  pools = by_name (λ (p : TapePool). p.name) large_site.pools.items refl;
  policies = by_name (λ (p : Policy). p.name) large_site.policies.items refl;
  libraries = by_name (λ (l : List ℕ). l) large_site.libraries.items refl;
  tapes = by_name (λ (t : Tape). t.vid) large_site.tapes.items refl;
  drives = by_name (λ (d : Drive). d.name) large_site.drives.items refl;
}

pub large_is_valid : IsValidSite large_site
large_is_valid = record { rules = refl; in_order = large_in_order }

-- a path is in the directory that it goes on from with a slash
pub in_directory : class_of small_site (codes "/atlas/a") ≡ Some 0
in_directory = refl

pub beside_directory : class_of small_site (codes "/atlasx/a") ≡ None
beside_directory = refl

pub directory_itself : class_of small_site (codes "/atlas") ≡ None
directory_itself = refl

pub copies_there : copies_of small_site (codes "/atlas/a") ≡ 1
copies_there = refl

-- names are whole
pub drive_there : drive_of small_site (codes "d1") ≡ Some 0
drive_there = refl

pub drive_front : drive_of small_site (codes "d") ≡ None
drive_front = refl

pub drive_called : drive_name small_site 0 ≡ codes "d1"
drive_called = refl

pub tape_there : tape_of small_site (codes "V1") ≡ Some 0
tape_there = refl

-- who no rule names has the default policy
pub default_policy : policy_of small_site (codes "alice") (codes "atlas") ≡ 0
default_policy = refl

pub pool_there : pool_of small_site 0 1 ≡ 0
pool_there = refl

pub vo_there : vo_of_pool small_site 0 ≡ 0
vo_there = refl

pub capacity_there : capacity_of small_site 0 ≡ 1000
capacity_there = refl

pub state_there : first_state small_site 0 ≡ Active
state_there = refl

pub in_reach : is_in_reach small_site 0 0 ≡ true
in_reach = refl

-- a directory in another
abbrev pub inner : Directory
inner = record { path = codes "/atlas/raw"; class = codes "raw" }

-- a site with a directory in another, the longer one first
abbrev pub nested_site : Site
nested_site = record small_site { directories = rows (inner ∷ small_directory ∷ []) }

-- the longest directory has the path, and a name that only begins alike is in the shorter
pub in_inner : directory_of nested_site (codes "/atlas/raw/a") ≡ Some inner
in_inner = refl

pub in_outer : directory_of nested_site (codes "/atlas/raw2/a") ≡ Some small_directory
in_outer = refl

-- a policy and a rule of these names
abbrev pub policy_called : List ℕ → Policy
policy_called name = record small_policy { name = name }

abbrev pub rule_for : RuleKind → List ℕ → List ℕ → Rule
rule_for kind name policy = record { kind = kind; name = name; policy = policy }

-- a site with a policy for a group and another for one of its requesters
abbrev pub ruled_site : Site
ruled_site = record small_site {
  policies = rows (policy_called (codes "fast") ∷ policy_called (codes "slow") ∷ small_policy ∷ []);
  rules = rows (rule_for Group (codes "atlas") (codes "slow") ∷ rule_for Requester (codes "alice") (codes "fast") ∷ []);
}

-- the requester's rule goes before the group's, and that before the default policy
pub by_requester : policy_of ruled_site (codes "alice") (codes "atlas") ≡ 0
by_requester = refl

pub by_group : policy_of ruled_site (codes "bob") (codes "atlas") ≡ 1
by_group = refl

pub by_default : policy_of ruled_site (codes "bob") (codes "alice") ≡ 2
by_default = refl
