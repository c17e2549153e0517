-- What a site says by name. Numbers of virtual organisations, classes, pools, policies, tapes and drives are places in its lists, from 0.
use Rattle.std.specs.Prelude.{ℕ, length, List, [], ◌∷◌, ◌++◌, Option, Some, None, Bool, true, false, if◌then◌else◌, ◌==◌, ◌&&◌, bytes_eq, nat_lt, nat_eq, slice_get, filter, find, option_map, unwrap_or, IsSome}
use Rattle.std.specs.List.{position, starts_with}
use Rattle.cta_site.specs.declared.site.Site.{Site}
use Rattle.cta_site.specs.declared.site.Class.{Class}
use Rattle.cta_site.specs.declared.site.Vo.{Vo}
use Rattle.cta_site.specs.declared.site.TapePool.{TapePool}
use Rattle.cta_site.specs.declared.site.Tape.{Tape}
use Rattle.cta_site.specs.declared.site.Drive.{Drive}
use Rattle.cta_site.specs.declared.site.Route.{Route}
use Rattle.cta_site.specs.declared.site.Rule.{Rule}
use Rattle.cta_site.specs.declared.site.RuleKind.{RuleKind}
use Rattle.cta_site.specs.declared.site.RuleKind.TheVariants.{Requester, Group}
use Rattle.cta_site.specs.declared.site.Policy.{Policy}
use Rattle.cta_site.specs.declared.site.Directory.{Directory}
use Rattle.cta_site.specs.declared.site.TapeState.{TapeState}
use Rattle.cta_site.specs.declared.site.TapeState.TheVariants as state

-- the place of the first item of this name, None where there is none
abbrev pub place_by : {A : Type 0} → (A → List ℕ) → List A → List ℕ → Option ℕ
place_by name xs key = position (λ x. bytes_eq (name x) key) xs

-- the place of the first item of this name, and where there is none the length of the list
abbrev pub index_by : {A : Type 0} → (A → List ℕ) → List A → List ℕ → ℕ
index_by name xs key = unwrap_or (place_by name xs key) (length xs)

-- the number of the drive of this name
abbrev pub drive_of : Site → List ℕ → Option ℕ
drive_of site name = place_by (λ (d : Drive). d.name) site.drives.items name

-- the name of a drive, empty where there is no drive
abbrev pub name_of_drive : Option Drive → List ℕ
name_of_drive None = []
name_of_drive (Some d) = d.name

-- the name of the drive of this number
abbrev pub drive_name : Site → ℕ → List ℕ
drive_name site drive = name_of_drive (slice_get site.drives.items drive)

-- the VID of a tape, empty where there is no tape
abbrev pub vid_of_tape : Option Tape → List ℕ
vid_of_tape None = []
vid_of_tape (Some t) = t.vid

-- the VID of the tape of this number
abbrev pub vid_of : Site → ℕ → List ℕ
vid_of site tape = vid_of_tape (slice_get site.tapes.items tape)

-- the number of the tape of this VID
abbrev pub tape_of : Site → List ℕ → Option ℕ
tape_of site vid = place_by (λ (t : Tape). t.vid) site.tapes.items vid

-- a path is under a directory where it begins with the directory's path and a slash
abbrev pub is_under : List ℕ → List ℕ → Bool
is_under directory path = starts_with nat_eq path (directory ++ 47 ∷ [])

-- of a directory and perhaps another, the one with the longer path
abbrev pub longer : Directory → Option Directory → Option Directory
longer d None = Some d
longer d (Some e) = if nat_lt (length d.path) (length e.path) then Some e else Some d

-- the directory with the longest path
abbrev pub longest : List Directory → Option Directory
longest [] = None
longest (d ∷ ds) = longer d (longest ds)

-- the site directory that a path belongs to: the longest that it is under
abbrev pub directory_of : Site → List ℕ → Option Directory
directory_of site path = longest (filter (λ (d : Directory). is_under d.path path) site.directories.items)

-- the number of the class of this name
abbrev pub class_number : Site → List ℕ → ℕ
class_number site name = index_by (λ (c : Class). c.name) site.classes.items name

-- the storage class of a path: that of the directory that it belongs to
abbrev pub class_of : Site → List ℕ → Option ℕ
class_of site path = option_map (λ (d : Directory). class_number site d.class) (directory_of site path)

-- the copies of a class, 0 where it isn't one of the site
abbrev pub copies_in : Option Class → ℕ
copies_in None = 0
copies_in (Some c) = c.copies

-- how many copies a class has, 0 where there is no class
abbrev pub copies_of_class : Site → Option ℕ → ℕ
copies_of_class site None = 0
copies_of_class site (Some class) = copies_in (slice_get site.classes.items class)

-- how many copies a path's class has, 0 where the path has none
abbrev pub copies_of : Site → List ℕ → ℕ
copies_of site path = copies_of_class site (class_of site path)

-- whether a route is that of this class and copy
abbrev pub is_route_of : List ℕ → ℕ → Route → Bool
is_route_of class copy route = bytes_eq route.class class && route.copy == copy

-- the name of a class, empty where there is no class
abbrev pub class_name : Option Class → List ℕ
class_name None = []
class_name (Some c) = c.name

-- the route of a copy of a class
abbrev pub route_of : Site → ℕ → ℕ → Option Route
route_of site class copy = find (is_route_of (class_name (slice_get site.classes.items class)) copy) site.routes.items

-- the number of the pool of this name
abbrev pub pool_number : Site → List ℕ → ℕ
pool_number site name = index_by (λ (p : TapePool). p.name) site.pools.items name

-- the number of the pool that a route goes to, and where there is no route a number that no pool has
abbrev pub pool_of_route : Site → Option Route → ℕ
pool_of_route site None = length site.pools.items
pool_of_route site (Some r) = pool_number site r.pool

-- the pool that this copy of the class goes to
abbrev pub pool_of : Site → ℕ → ℕ → ℕ
pool_of site class copy = pool_of_route site (route_of site class copy)

-- a site has a route for this copy of the class
abbrev pub HasRoute : Site → ℕ → ℕ → Type 0
HasRoute site class copy = IsSome (route_of site class copy)

-- the pool that a tape is in, and where there is no tape a number that no pool has
abbrev pub pool_holding : Site → Option Tape → ℕ
pool_holding site None = length site.pools.items
pool_holding site (Some t) = pool_number site t.pool

-- the pool of the tape of this number
abbrev pub pool_of_tape : Site → ℕ → ℕ
pool_of_tape site tape = pool_holding site (slice_get site.tapes.items tape)

-- the name of a pool's virtual organisation, empty where there is no pool
abbrev pub vo_name : Option TapePool → List ℕ
vo_name None = []
vo_name (Some p) = p.vo

-- the name of a pool, empty where there is no pool
abbrev pub name_of_pool : Option TapePool → List ℕ
name_of_pool None = []
name_of_pool (Some p) = p.name

-- the name of the pool of this number
abbrev pub pool_name : Site → ℕ → List ℕ
pool_name site pool = name_of_pool (slice_get site.pools.items pool)

-- the virtual organisation of a pool
abbrev pub vo_of_pool : Site → ℕ → ℕ
vo_of_pool site pool = index_by (λ (v : Vo). v.name) site.vos.items (vo_name (slice_get site.pools.items pool))

-- the capacity of a tape in bytes, 0 where there is no tape
abbrev pub tape_capacity : Option Tape → ℕ
tape_capacity None = 0
tape_capacity (Some t) = t.capacity

-- the capacity of the tape of this number
abbrev pub capacity_of : Site → ℕ → ℕ
capacity_of site tape = tape_capacity (slice_get site.tapes.items tape)

-- the state that the site gives a tape, BROKEN where there is no tape
abbrev pub given_state : Option Tape → TapeState
given_state None = state.Broken
given_state (Some t) = t.state

-- the state of a tape at the start
abbrev pub first_state : Site → ℕ → TapeState
first_state site tape = given_state (slice_get site.tapes.items tape)

-- whether a drive and a tape are in one library
abbrev pub share_library : Option Drive → Option Tape → Bool
share_library None t = false
share_library (Some d) None = false
share_library (Some d) (Some t) = bytes_eq d.library t.library

-- whether a drive reaches a tape: both are in one library
abbrev pub is_in_reach : Site → ℕ → ℕ → Bool
is_in_reach site drive tape = share_library (slice_get site.drives.items drive) (slice_get site.tapes.items tape)

-- whether two rules name the same kind of caller
abbrev pub same_kind : RuleKind → RuleKind → Bool
same_kind Requester Requester = true
same_kind Group Group = true
same_kind Requester Group = false
same_kind Group Requester = false

-- whether a rule is for a caller's requester or group of this name
abbrev pub is_rule_for : RuleKind → List ℕ → Rule → Bool
is_rule_for kind name rule = same_kind rule.kind kind && bytes_eq rule.name name

-- the name of the policy that a rule gives to a requester, or to a group
abbrev pub rule_policy : List Rule → RuleKind → List ℕ → Option (List ℕ)
rule_policy rules kind name = option_map (λ (r : Rule). r.policy) (find (is_rule_for kind name) rules)

-- by the requester's rule, else by the group's rule, else the default policy
abbrev pub policy_name_in : List Rule → List ℕ → List ℕ → List ℕ → List ℕ
policy_name_in rules default requester group = unwrap_or (rule_policy rules Requester requester) (unwrap_or (rule_policy rules Group group) default)

-- the name of a caller's policy
abbrev pub policy_name : Site → List ℕ → List ℕ → List ℕ
policy_name site requester group = policy_name_in site.rules.items site.default_policy requester group

-- the number of the policy of this name
abbrev pub policy_number : Site → List ℕ → ℕ
policy_number site name = index_by (λ (p : Policy). p.name) site.policies.items name

-- the policy of this name
abbrev pub policy_named : Site → List ℕ → Option Policy
policy_named site name = slice_get site.policies.items (policy_number site name)

-- the number of a caller's policy
abbrev pub policy_of : Site → List ℕ → List ℕ → ℕ
policy_of site requester group = policy_number site (policy_name site requester group)
