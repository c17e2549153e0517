-- The routes (WLCG Tape REST v1 for those under `/api/v1`; the others are this project's own).
use Rattle.std.specs.Prelude.{ℕ, ◌∷◌, [], ◌++◌, List, Option, Some, None, is_some, option_and_then, if◌then◌else◌, ◌||◌, ◌&&◌, ◌==◌, ◌-◌, nat_le, slice_index, length, take, drop, find, codes, bytes_eq}
use Rattle.std.specs.BTreeSet.{insert_key}
use Rattle.std.specs.Cmp.Lexicographic.{slice_cmp}
use Rattle.std.specs.List.{list_any}
use Rattle.std.specs.Ordering.{nat_cmp}
use Rattle.tape_routes.specs.declared.routes.Endpoint.{Endpoint}
use Rattle.tape_routes.specs.declared.routes.Endpoint.TheVariants as at
use Rattle.tape_routes.specs.declared.routes.Meaning.{Meaning}
use Rattle.tape_routes.specs.declared.routes.Meaning.TheVariants as means

-- which targets a route has: one text; a text, a parameter with no slash in it, and a text; or all that go on below a text
pub data Pattern : Type 0 where
  Fixed : (text : List ℕ) → Pattern
  Named : (before after : List ℕ) → Pattern
  Below : (text : List ℕ) → Pattern

-- a method, and what it means on the route
pub record Method : Type 0 where
  pub name : List ℕ
  pub meaning : Meaning

-- a route has a pattern and methods
pub record Route : Type 0 where
  pub pattern : Pattern
  pub methods : List Method

-- a route with this pattern and these methods
abbrev pub route : Pattern → List Method → Route
route pattern methods = record { pattern = pattern; methods = methods }

-- a method by its name
abbrev pub get : Meaning → Method
get meaning = record { name = codes "GET"; meaning = meaning }

abbrev pub post : Meaning → Method
post meaning = record { name = codes "POST"; meaning = meaning }

abbrev pub put : Meaning → Method
put meaning = record { name = codes "PUT"; meaning = meaning }

abbrev pub delete : Meaning → Method
delete meaning = record { name = codes "DELETE"; meaning = meaning }

-- the route table
abbrev pub route_of : Endpoint → Route
route_of at.WellKnown = route (Fixed (codes "/.well-known/wlcg-tape-rest-api")) (get means.Service ∷ [])
route_of at.Stage = route (Fixed (codes "/api/v1/stage")) (post means.Stage ∷ [])
route_of at.StageRequest = route (Named (codes "/api/v1/stage/") []) (delete means.DropStage ∷ get means.StageInfo ∷ [])
route_of at.StageCancel = route (Named (codes "/api/v1/stage/") (codes "/cancel")) (post means.Cancel ∷ [])
route_of at.Release = route (Named (codes "/api/v1/release/") []) (post means.Release ∷ [])
route_of at.ArchiveInfo = route (Fixed (codes "/api/v1/archiveinfo")) (post means.ArchiveInfo ∷ [])
route_of at.Data = route (Below (codes "/data")) (delete means.Delete ∷ get means.Fetch ∷ put means.Put ∷ [])
route_of at.DriveUp = route (Named (codes "/admin/v1/drive/") (codes "/up")) (post means.DriveUp ∷ [])
route_of at.DriveDown = route (Named (codes "/admin/v1/drive/") (codes "/down")) (post means.DriveDown ∷ [])
route_of at.Tape = route (Named (codes "/admin/v1/tape/") []) (get means.TapeInfo ∷ [])
route_of at.TapeState = route (Named (codes "/admin/v1/tape/") (codes "/state")) (post means.TapeState ∷ [])
route_of at.TapeReclaim = route (Named (codes "/admin/v1/tape/") (codes "/reclaim")) (post means.Reclaim ∷ [])
route_of at.Repack = route (Fixed (codes "/admin/v1/repack")) (post means.Repack ∷ [])
route_of at.RepackRequest = route (Named (codes "/admin/v1/repack/") []) (get means.RepackInfo ∷ [])
route_of at.Failed = route (Fixed (codes "/admin/v1/failed")) (get means.FailedList ∷ [])
route_of at.FailedRetry = route (Fixed (codes "/admin/v1/failed/retry")) (post means.Retry ∷ [])
route_of at.Queues = route (Fixed (codes "/admin/v1/queues")) (get means.Queues ∷ [])

-- every endpoint that has a route
abbrev pub every_endpoint : List Endpoint
every_endpoint =
    at.WellKnown ∷ at.Stage ∷ at.StageRequest ∷ at.StageCancel ∷ at.Release ∷ at.ArchiveInfo ∷ at.Data ∷ at.DriveUp ∷ at.DriveDown
    ∷ at.Tape ∷ at.TapeState ∷ at.TapeReclaim ∷ at.Repack ∷ at.RepackRequest ∷ at.Failed ∷ at.FailedRetry ∷ at.Queues ∷ []

-- what follows this text at the front of a target
abbrev pub rest_after : List ℕ → List ℕ → Option (List ℕ)
rest_after text target = if bytes_eq (take (length text) target) text then Some (drop (length text) target) else None

-- what stands before this text at the end of a target
abbrev pub front_before : List ℕ → List ℕ → Option (List ℕ)
front_before text target =
    if bytes_eq (drop (length target - length text) target) text then Some (take (length target - length text) target) else None

-- a name is not empty and has no slash
abbrev pub if_name : List ℕ → Option (List ℕ)
if_name name = if (length name == 0) || list_any (λ b. b == 47) name then None else Some name

-- a path goes on behind a slash
abbrev pub if_below : List ℕ → Option (List ℕ)
if_below rest = if (slice_index rest 0 == 47) && nat_le 2 (length rest) then Some rest else None

-- the parameter of a target that has this pattern, before percent-decoding; a fixed text has an empty one
abbrev pub parameter_in : Pattern → List ℕ → Option (List ℕ)
parameter_in (Fixed text) target = if bytes_eq target text then Some [] else None
parameter_in (Named before after) target = option_and_then if_name (option_and_then (front_before after) (rest_after before target))
parameter_in (Below text) target = option_and_then if_below (rest_after text target)

-- the parameter of a target at an endpoint
abbrev pub parameter_of : Endpoint → List ℕ → Option (List ℕ)
parameter_of e target = parameter_in (route_of e).pattern target

-- the endpoint whose route has the target
abbrev pub endpoint_of : List ℕ → Option Endpoint
endpoint_of target = find (λ e. is_some (parameter_of e target)) every_endpoint

-- what a method of this name means among these, if it is one of them
abbrev pub meaning_in : List Method → List ℕ → Option Meaning
meaning_in [] name = None
meaning_in (m ∷ ms) name = if bytes_eq name m.name then Some m.meaning else meaning_in ms name

-- what a method of this name means at an endpoint
abbrev pub meaning_of : Endpoint → List ℕ → Option Meaning
meaning_of e name = meaning_in (route_of e).methods name

-- the names of the methods, in byte order
abbrev pub names_in_order : List Method → List (List ℕ)
names_in_order [] = []
names_in_order (m ∷ ms) = insert_key (slice_cmp nat_cmp) (names_in_order ms) m.name

-- names, joined by a comma and a space
abbrev pub joined : List (List ℕ) → List ℕ
joined [] = []
joined (name ∷ []) = name
joined (name ∷ other ∷ names) = name ++ codes ", " ++ joined (other ∷ names)

-- the methods that an endpoint has, in byte order, as `Allow` lists them
abbrev pub allowed_at : Endpoint → List ℕ
allowed_at e = joined (names_in_order (route_of e).methods)
