-- The rules on names that differ and on what elements say of one another.
use Rattle.std.specs.Prelude.{ℕ, length, List, [], ◌∷◌, Option, Some, None, Bool, ◌==◌, ◌&&◌, ◌||◌, nat_le, not, bytes_eq, find, filter}
use Rattle.std.specs.List.{list_all}
use Rattle.std.specs.Option.{option_or}
use Rattle.cta_site.specs.declared.site.Site.{Site}
use Rattle.cta_site.specs.declared.site.Class.{Class}
use Rattle.cta_site.specs.declared.site.TapePool.{TapePool}
use Rattle.cta_site.specs.declared.site.Route.{Route}
use Rattle.cta_site.specs.declared.site.Rule.{Rule}
use Rattle.cta_site.specs.declared.site.Tape.{Tape}
use Rattle.cta_site.specs.declared.site.Drive.{Drive}
use Rattle.cta_site.specs.declared.site.Directory.{Directory}
use Rattle.cta_site.specs.declared.site.Failure.{Failure}
use Rattle.cta_site.specs.Lookups.{is_route_of, same_kind, copies_in, vo_name}
use Rattle.cta_site.specs.Paths.{is_path}
use Rattle.cta_site.specs.Names.{vo_names, class_names, pool_names, policy_names, vids, drive_names, directory_paths}
use Rattle.cta_site.specs.Items.{unless, first_failing, first_same, first_repeat, is_among, fault}

-- the first broken one of rules 9 to 12: no two names of virtual organisations, classes, pools or policies are equal
abbrev pub store_repeat : Site → Option (ℕ × ℕ)
store_repeat site =
    option_or (fault 9 (first_repeat (vo_names site)))
    (option_or (fault 10 (first_repeat (class_names site)))
    (option_or (fault 11 (first_repeat (pool_names site)))
    (fault 12 (first_repeat (policy_names site)))))

-- the first broken one of rules 13 to 16: no two names of libraries, VIDs, names of drives or paths of directories are equal
abbrev pub device_repeat : Site → Option (ℕ × ℕ)
device_repeat site =
    option_or (fault 13 (first_repeat site.libraries.items))
    (option_or (fault 14 (first_repeat (vids site)))
    (option_or (fault 15 (first_repeat (drive_names site)))
    (fault 16 (first_repeat (directory_paths site)))))

-- rule 17: a class's virtual organisation exists
abbrev pub class_has_vo : Site → Class → Bool
class_has_vo site c = is_among (vo_names site) c.vo

-- rule 18: a pool's virtual organisation exists
abbrev pub pool_has_vo : Site → TapePool → Bool
pool_has_vo site p = is_among (vo_names site) p.vo

-- a copy of a class has exactly one route
abbrev pub has_one_route : Site → Class → ℕ → Bool
has_one_route site c copy = length (filter (is_route_of c.name copy) site.routes.items) == 1

-- the numbers that a copy may have
abbrev pub copy_numbers : List ℕ
copy_numbers = 1 ∷ 2 ∷ 3 ∷ 4 ∷ []

-- rule 19: each copy from 1 to a class's copies has exactly one route
abbrev pub class_has_routes : Site → Class → Bool
class_has_routes site c = list_all (λ copy. not (nat_le copy c.copies) || has_one_route site c copy) copy_numbers

-- the class of this name
abbrev pub class_named : Site → List ℕ → Option Class
class_named site name = find (λ (c : Class). bytes_eq c.name name) site.classes.items

-- the pool of this name
abbrev pub pool_named : Site → List ℕ → Option TapePool
pool_named site name = find (λ (p : TapePool). bytes_eq p.name name) site.pools.items

-- rule 20: a route's class exists, and has its copy
abbrev pub route_has_class : Site → Route → Bool
route_has_class site r = is_among (class_names site) r.class && nat_le r.copy (copies_in (class_named site r.class))

-- rule 21: a route's pool exists
abbrev pub route_has_pool : Site → Route → Bool
route_has_pool site r = is_among (pool_names site) r.pool

-- the virtual organisation of a class, empty where there is no class
abbrev pub class_vo : Option Class → List ℕ
class_vo None = []
class_vo (Some c) = c.vo

-- rule 22: a route's pool has the virtual organisation of its class
abbrev pub route_keeps_vo : Site → Route → Bool
route_keeps_vo site r = bytes_eq (class_vo (class_named site r.class)) (vo_name (pool_named site r.pool))

-- rule 23: two routes are the same where they go from one class to one pool
abbrev pub same_ends : Route → Route → Bool
same_ends r s = bytes_eq r.class s.class && bytes_eq r.pool s.pool

-- rule 26: a rule's policy exists
abbrev pub rule_has_policy : Site → Rule → Bool
rule_has_policy site r = is_among (policy_names site) r.policy

-- rule 27: two rules are the same where they are of one kind and one name
abbrev pub same_caller : Rule → Rule → Bool
same_caller r s = same_kind r.kind s.kind && bytes_eq r.name s.name

-- rule 28: a tape's pool and library exist
abbrev pub tape_has_home : Site → Tape → Bool
tape_has_home site t = is_among (pool_names site) t.pool && is_among site.libraries.items t.library

-- rule 29: a drive's library exists
abbrev pub drive_has_library : Site → Drive → Bool
drive_has_library site d = is_among site.libraries.items d.library

-- rule 29: a failure's drive exists
abbrev pub failure_has_drive : Site → Failure → Bool
failure_has_drive site f = is_among (drive_names site) f.drive

-- rule 30: a directory's path is a path, and its class exists
abbrev pub directory_has_class : Site → Directory → Bool
directory_has_class site d = is_path d.path && is_among (class_names site) d.class

-- the first broken one of rules 17 to 19, on classes and pools
abbrev pub class_fault : Site → Option (ℕ × ℕ)
class_fault site =
    option_or (fault 17 (first_failing (class_has_vo site) site.classes.items))
    (option_or (fault 18 (first_failing (pool_has_vo site) site.pools.items))
    (fault 19 (first_failing (class_has_routes site) site.classes.items)))

-- the first broken one of rules 20 to 23, on routes; rule 23: the routes of one class go to different pools
abbrev pub route_fault : Site → Option (ℕ × ℕ)
route_fault site =
    option_or (fault 20 (first_failing (route_has_class site) site.routes.items))
    (option_or (fault 21 (first_failing (route_has_pool site) site.routes.items))
    (option_or (fault 22 (first_failing (route_keeps_vo site) site.routes.items))
    (fault 23 (first_same same_ends site.routes.items))))

-- the first broken one of rules 24 to 27, on policies and rules; rules 24 and 25: the default policy and the repack policy exist; rule 27: no two rules have the same kind and name
abbrev pub policy_fault : Site → Option (ℕ × ℕ)
policy_fault site =
    option_or (fault 24 (unless (is_among (policy_names site) site.default_policy)))
    (option_or (fault 25 (unless (is_among (policy_names site) site.repack_policy)))
    (option_or (fault 26 (first_failing (rule_has_policy site) site.rules.items))
    (fault 27 (first_same same_caller site.rules.items))))

-- rule 29 goes over the drives and then over the failures
abbrev pub drive_item : Site → Option ℕ
drive_item site = option_or (first_failing (drive_has_library site) site.drives.items) (first_failing (failure_has_drive site) site.failures.items)

-- the first broken one of rules 28 to 30, on tapes, drives, failures and directories
abbrev pub device_fault : Site → Option (ℕ × ℕ)
device_fault site =
    option_or (fault 28 (first_failing (tape_has_home site) site.tapes.items))
    (option_or (fault 29 (drive_item site))
    (fault 30 (first_failing (directory_has_class site) site.directories.items)))
