-- What the bodies of requests say (WLCG Tape REST v1, and this project's own for the routes of the administration).
use Rattle.std.specs.Prelude.{ℕ, ◌+◌, ◌*◌, ◌&&◌, ◌==◌, Bool, List, [], ◌∷◌, Option, Some, None, is_some, option_map, option_and_then, Result, Ok, Err, if◌then◌else◌, codes, bytes_eq}
use Rattle.std.specs.List.{list_all}
use Rattle.std.specs.Str.{is_utf8}
use Rattle.jiff_core.specs.declared.error.Error.{Error}
use Rattle.jiff_fmt.specs.Temporal.{parse_span}
use Rattle.serde_json.specs.Data.{Data, null, boolean, number, string, array, object, Items, no_items, item}
use Rattle.serde_json.specs.Read.{read}
use Rattle.serde_json.specs.Find.{get, as_str, as_array}
use Rattle.cta_site.specs.declared.site.TapeState.{TapeState}
use Rattle.cta_site.specs.declared.site.TapeState.TheVariants.{Active, Disabled, Broken, Repacking}
use Rattle.cta_model.specs.declared.asks.Wanted.{Wanted}
use Rattle.tape_json.specs.declared.body.BodyError.{BodyError}
use Rattle.tape_json.specs.declared.body.BodyError.TheVariants.{BadBody, BadLifetime, EmptyList}

-- the JSON value of a body: there is none where the bytes are no UTF-8 or no JSON
abbrev pub body_data : List ℕ → Option Data
body_data bytes = if is_utf8 bytes then read bytes else None

-- what a body is read as: a bad body where it is no JSON
abbrev pub from_body : {A : Type 0} → (Data → Result A BodyError) → Option Data → Result A BodyError
from_body reads None = Err BadBody
from_body reads (Some body) = reads body

-- the items of an array, in their order
abbrev pub item_list : Items → List Data
item_list no_items = []
item_list (item d ds) = d ∷ item_list ds

-- the array under this name in an object, as a list
abbrev pub list_under : List ℕ → Data → Option (List Data)
list_under name body = option_map item_list (option_and_then as_array (get name body))

-- the text under this name in an object
abbrev pub text_under : List ℕ → Data → Option (List ℕ)
text_under name body = option_and_then as_str (get name body)

-- what each item of a list is read as, where each is read
abbrev pub all_read : {A B : Type 0} → (A → Option B) → List A → Option (List B)
all_read reads [] = Some []
all_read reads (x ∷ xs) = option_and_then (λ y. option_map (λ ys. y ∷ ys) (all_read reads xs)) (reads x)

-- a list of which there is none is this fault, and one with no item is an empty list
abbrev pub filled : {A : Type 0} → BodyError → Option (List A) → Result (List A) BodyError
filled fault None = Err fault
filled fault (Some []) = Err EmptyList
filled fault (Some (x ∷ xs)) = Ok (x ∷ xs)

-- a body of paths is an object whose `paths` is a list of texts, at least one
abbrev pub paths_in : Data → Result (List (List ℕ)) BodyError
paths_in body = filled BadBody (option_and_then (all_read as_str) (list_under (codes "paths") body))

-- the paths of a body
abbrev pub paths_of : List ℕ → Result (List (List ℕ)) BodyError
paths_of bytes = from_body paths_in (body_data bytes)

-- the seconds of a span that is not negative and has no years and no months: the weeks, days, hours, minutes and seconds
-- that it is read as, smaller units dropped
abbrev pub whole_seconds : List ℕ → Option ℕ
whole_seconds (sign ∷ years ∷ months ∷ weeks ∷ days ∷ hours ∷ minutes ∷ seconds ∷ below) =
    if (sign == 0) && (years == 0) && (months == 0)
    then Some (weeks * 604800 + days * 86400 + hours * 3600 + minutes * 60 + seconds) else None
whole_seconds _ = None

-- the whole seconds of what a duration of ISO 8601 is read as
abbrev pub seconds_of : Result (List ℕ) Error → Option ℕ
seconds_of (Ok span) = whole_seconds span
seconds_of (Err error) = None

-- the seconds of a lifetime in ISO 8601, where it is one
abbrev pub lifetime_seconds : List ℕ → Option ℕ
lifetime_seconds text = seconds_of (parse_span text)

-- what a member says of the lifetime: nothing where it is absent or null, its seconds where it is such a text, else it is bad
abbrev pub lifetime_of : Option Data → Option (Option ℕ)
lifetime_of None = Some None
lifetime_of (Some null) = Some None
lifetime_of (Some (boolean b)) = None
lifetime_of (Some (number n)) = None
lifetime_of (Some (string text)) = option_map Some (lifetime_seconds text)
lifetime_of (Some (array ds)) = None
lifetime_of (Some (object ms)) = None

-- the path of a wanted file, which is an object whose `path` is a text
abbrev pub path_of : Data → Option (List ℕ)
path_of = text_under (codes "path")

-- whether it is an object whose `path` is a text
abbrev pub has_path : Data → Bool
has_path file = is_some (path_of file)

-- a wanted file with its path and its lifetime
abbrev pub wanted_of : Data → Option Wanted
wanted_of file =
    option_and_then (λ path. option_map (λ lifetime. record { path = path; lifetime = lifetime })
    (lifetime_of (get (codes "diskLifetime") file))) (path_of file)

-- a file with no path is a bad body, before a bad lifetime, and that before an empty list
abbrev pub files_wanted : Option (List Data) → Result (List Wanted) BodyError
files_wanted None = Err BadBody
files_wanted (Some files) = if list_all has_path files then filled BadLifetime (all_read wanted_of files) else Err BadBody

-- a stage body is an object whose `files` is a list of wanted files, at least one
abbrev pub stage_in : Data → Result (List Wanted) BodyError
stage_in body = files_wanted (list_under (codes "files") body)

-- the files that a stage body wants
abbrev pub stage_of : List ℕ → Result (List Wanted) BodyError
stage_of bytes = from_body stage_in (body_data bytes)

-- the state of a tape that a word names
abbrev pub state_named : List ℕ → Result TapeState BodyError
state_named word =
    if bytes_eq word (codes "ACTIVE") then Ok Active
    else (if bytes_eq word (codes "DISABLED") then Ok Disabled
    else (if bytes_eq word (codes "BROKEN") then Ok Broken
    else (if bytes_eq word (codes "REPACKING") then Ok Repacking
    else Err BadBody)))

-- what a text is read as, a bad body where there is none
abbrev pub if_text : {A : Type 0} → (List ℕ → Result A BodyError) → Option (List ℕ) → Result A BodyError
if_text reads None = Err BadBody
if_text reads (Some text) = reads text

-- a state body is an object whose `state` is the name of a state
abbrev pub state_in : Data → Result TapeState BodyError
state_in body = if_text state_named (text_under (codes "state") body)

-- the state that a body names
abbrev pub state_of : List ℕ → Result TapeState BodyError
state_of bytes = from_body state_in (body_data bytes)

-- a repack body is an object whose `vid` is a text
abbrev pub vid_in : Data → Result (List ℕ) BodyError
vid_in body = if_text Ok (text_under (codes "vid") body)

-- the VID of a body
abbrev pub vid_of : List ℕ → Result (List ℕ) BodyError
vid_of bytes = from_body vid_in (body_data bytes)
