-- A site file: the first of its rules 1 to 7 that it breaks, and the site that it tells.
use Rattle.std.specs.Prelude.{ℕ, List, length, Bool, ◌&&◌, ◌||◌, nat_le, if◌then◌else◌, Option, Some, None, is_some, option_and_then, unwrap_or, map, codes}
use Rattle.std.specs.Option.{option_or}
use Rattle.std.specs.List.{list_all}
use Rattle.std.specs.Str.{is_utf8}
use Rattle.serde_json.specs.Data.{Data, null}
use Rattle.serde_json.specs.Read.{read}
use Rattle.serde_json.specs.Find.{get, as_object}
use Rattle.cta_site.specs.declared.site.Site.{Site}
use Rattle.cta_site.specs.declared.site.Limits.{Limits}
use Rattle.cta_site.specs.Listed.{rows}
use Rattle.cta_site.specs.Items.{unless, first_failing, fault}
use Rattle.cta_site.specs.Forms.{is_address_byte}
use Rattle.site_json.specs.Members.{has_text, has_name, has_number, has_list, is_absent, text, number, list}
use Rattle.site_json.specs.Elements.{tells_vo, tells_class, tells_pool, tells_route, tells_policy, tells_rule, tells_library, tells_tape, tells_drive, tells_directory, tells_failure, vo_told, class_told, pool_told, route_told, policy_told, rule_told, library_told, tape_told, drive_told, directory_told, failure_told}

-- a value, where it is an object
abbrev pub object_alone : Data → Option Data
object_alone d = if is_some (as_object d) then Some d else None

-- rule 1: a file has at most 16,777,216 bytes, is JSON in UTF-8, and is an object; what it holds, where it keeps that
unfoldable pub file_of : List ℕ → Option Data
file_of bytes = if nat_le (length bytes) 16777216 && is_utf8 bytes then option_and_then object_alone (read bytes) else None

-- rule 2: the version is 1
abbrev pub has_version : Data → Bool
has_version file = has_number 1 1 (codes "version") file

-- rule 3: the site's name has 1 to 128 bytes, its address 1 to 512 of printable ASCII, and both policies have the form of a name
abbrev pub has_texts : Data → Bool
has_texts file =
    has_text 1 128 (codes "sitename") file && (has_text 1 512 (codes "endpoint") file && (list_all is_address_byte (text (codes "endpoint") file)
    && (has_name (codes "defaultPolicy") file && has_name (codes "repackPolicy") file)))

-- the limits, with no member where there are none
unfoldable pub limits_in : Data → Data
limits_in file = unwrap_or (get (codes "limits") file) null

-- the limits on bytes are in their ranges
abbrev pub has_byte_limits : Data → Bool
has_byte_limits limits =
    has_number 1 2147483648 (codes "buffer") limits && (has_number 0 1073741824 (codes "file") limits
    && (has_number 1 1125899906842624 (codes "archiveBytes") limits && has_number 1 1125899906842624 (codes "retrieveBytes") limits))

-- the limits on numbers of things and on time are in their ranges
abbrev pub has_number_limits : Data → Bool
has_number_limits limits =
    has_number 1 1000000 (codes "archiveFiles") limits && (has_number 1 1000000 (codes "retrieveFiles") limits
    && (has_number 1 1000 (codes "batchFiles") limits && (has_number 1 16 (codes "tries") limits
    && (has_number 1 1000000 (codes "history") limits && has_number 0 3153600000 (codes "lifetime") limits))))

-- rule 4: each limit is there, in its range
abbrev pub has_limits : Data → Bool
has_limits limits = has_byte_limits limits && has_number_limits limits

-- rule 5: a file of the greatest size has room in the buffer
abbrev pub fits_buffer : Data → Bool
fits_buffer limits = nat_le (number (codes "file") limits) (number (codes "buffer") limits)

-- the lists that say what is stored where are there, and no longer than they may be
abbrev pub has_store_lists : Data → Bool
has_store_lists file =
    has_list 64 (codes "vos") file && (has_list 256 (codes "classes") file && (has_list 256 (codes "pools") file && has_list 1024 (codes "routes") file))

-- the lists that say for whom are there, the rules maybe not, and are no longer than they may be
abbrev pub has_caller_lists : Data → Bool
has_caller_lists file =
    has_list 64 (codes "policies") file && ((is_absent (codes "rules") file || has_list 1024 (codes "rules") file) && has_list 1024 (codes "directories") file)

-- the lists that say what there is to store with are there, the failures maybe not, and are no longer than they may be
abbrev pub has_device_lists : Data → Bool
has_device_lists file =
    has_list 32 (codes "libraries") file && (has_list 4096 (codes "tapes") file
    && (has_list 64 (codes "drives") file && (is_absent (codes "failures") file || has_list 1024 (codes "failures") file)))

-- rule 6: each list is there, and no longer than it may be
abbrev pub has_lists : Data → Bool
has_lists file = has_store_lists file && (has_caller_lists file && has_device_lists file)

-- the first bad element of the lists that say what is stored where
abbrev pub bad_store : Data → Option ℕ
bad_store file =
    option_or (first_failing tells_vo (list (codes "vos") file))
    (option_or (first_failing tells_class (list (codes "classes") file))
    (option_or (first_failing tells_pool (list (codes "pools") file))
    (first_failing tells_route (list (codes "routes") file))))

-- the first bad element of the policies, then of the rules
abbrev pub bad_caller : Data → Option ℕ
bad_caller file = option_or (first_failing tells_policy (list (codes "policies") file)) (first_failing tells_rule (list (codes "rules") file))

-- the first bad element of the lists that follow
abbrev pub bad_device : Data → Option ℕ
bad_device file =
    option_or (first_failing tells_library (list (codes "libraries") file))
    (option_or (first_failing tells_tape (list (codes "tapes") file))
    (option_or (first_failing tells_drive (list (codes "drives") file))
    (option_or (first_failing tells_directory (list (codes "directories") file))
    (first_failing tells_failure (list (codes "failures") file)))))

-- rule 7: each element has its members, of their kinds and in their ranges; the lists go in the order of the file's form
abbrev pub bad_element : Data → Option ℕ
bad_element file = option_or (bad_store file) (option_or (bad_caller file) (bad_device file))

-- the first broken one of rules 2 to 6, which speak of no element
abbrev pub member_fault : Data → Option (ℕ × ℕ)
member_fault file =
    option_or (fault 2 (unless (has_version file)))
    (option_or (fault 3 (unless (has_texts file)))
    (option_or (fault 4 (unless (has_limits (limits_in file))))
    (option_or (fault 5 (unless (fits_buffer (limits_in file))))
    (fault 6 (unless (has_lists file))))))

-- the first broken one of rules 2 to 7
abbrev pub object_fault : Data → Option (ℕ × ℕ)
object_fault file = option_or (member_fault file) (fault 7 (bad_element file))

-- the first broken one of rules 1 to 7, of what rule 1 leaves
abbrev pub fault_within : Option Data → Option (ℕ × ℕ)
fault_within None = Some (1, 0)
fault_within (Some file) = object_fault file

-- the first of rules 1 to 7 that the bytes of a site file break, and the item that breaks it
abbrev pub file_fault : List ℕ → Option (ℕ × ℕ)
file_fault bytes = fault_within (file_of bytes)

-- what the limits say
abbrev pub limits_of : Data → Limits
limits_of limits = record {
  buffer = number (codes "buffer") limits;
  file = number (codes "file") limits;
  archive_bytes = number (codes "archiveBytes") limits;
  retrieve_bytes = number (codes "retrieveBytes") limits;
  archive_files = number (codes "archiveFiles") limits;
  retrieve_files = number (codes "retrieveFiles") limits;
  batch_files = number (codes "batchFiles") limits;
  tries = number (codes "tries") limits;
  history = number (codes "history") limits;
  lifetime = number (codes "lifetime") limits;
}

-- the site that an object tells, with no room to spare in its lists
abbrev pub site_told : Data → Site
site_told file = record {
  version = 1;
  sitename = text (codes "sitename") file;
  endpoint = text (codes "endpoint") file;
  default_policy = text (codes "defaultPolicy") file;
  repack_policy = text (codes "repackPolicy") file;
  limits = limits_of (limits_in file);
  vos = rows (map vo_told (list (codes "vos") file));
  classes = rows (map class_told (list (codes "classes") file));
  pools = rows (map pool_told (list (codes "pools") file));
  routes = rows (map route_told (list (codes "routes") file));
  policies = rows (map policy_told (list (codes "policies") file));
  rules = rows (map rule_told (list (codes "rules") file));
  libraries = rows (map library_told (list (codes "libraries") file));
  tapes = rows (map tape_told (list (codes "tapes") file));
  drives = rows (map drive_told (list (codes "drives") file));
  directories = rows (map directory_told (list (codes "directories") file));
  failures = rows (map failure_told (list (codes "failures") file));
}

-- the site that the bytes of a site file tell, where they break none of rules 1 to 7
abbrev pub site_of : List ℕ → Site
site_of bytes = site_told (unwrap_or (file_of bytes) null)
