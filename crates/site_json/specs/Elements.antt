-- Elements of the lists of a site file: which values they are, and what they say.
use Rattle.std.specs.Prelude.{ℕ, List, [], Bool, false, ◌&&◌, ◌||◌, not, is_some, unwrap_or, codes}
use Rattle.serde_json.specs.Data.{Data}
use Rattle.serde_json.specs.Find.{as_str}
use Rattle.cta_site.specs.declared.site.Vo.{Vo}
use Rattle.cta_site.specs.declared.site.Class.{Class}
use Rattle.cta_site.specs.declared.site.TapePool.{TapePool}
use Rattle.cta_site.specs.declared.site.Route.{Route}
use Rattle.cta_site.specs.declared.site.Policy.{Policy}
use Rattle.cta_site.specs.declared.site.Rule.{Rule}
use Rattle.cta_site.specs.declared.site.RuleKind.TheVariants.{Requester}
use Rattle.cta_site.specs.declared.site.Tape.{Tape}
use Rattle.cta_site.specs.declared.site.TapeState.TheVariants.{Active}
use Rattle.cta_site.specs.declared.site.Drive.{Drive}
use Rattle.cta_site.specs.declared.site.Directory.{Directory}
use Rattle.cta_site.specs.declared.site.Failure.{Failure}
use Rattle.cta_site.specs.declared.site.CallKind.{CallKind}
use Rattle.cta_site.specs.declared.site.CallKind.TheVariants.{Load}
use Rattle.cta_site.specs.Forms.{is_read}
use Rattle.site_json.specs.Members.{is_text, has_text, has_number, text, number}
use Rattle.site_json.specs.Words.{kind_at, state_at, call_at, alter_at}

-- a virtual organisation has a name, and 0 to 64 drives in each direction
abbrev pub tells_vo : Data → Bool
tells_vo d = is_text (codes "name") d && (has_number 0 64 (codes "readDrives") d && has_number 0 64 (codes "writeDrives") d)

-- a storage class has a name, a virtual organisation, and 1 to 4 copies
abbrev pub tells_class : Data → Bool
tells_class d = is_text (codes "name") d && (is_text (codes "vo") d && has_number 1 4 (codes "copies") d)

-- a tape pool has a name and a virtual organisation
abbrev pub tells_pool : Data → Bool
tells_pool d = is_text (codes "name") d && is_text (codes "vo") d

-- an archive route has a class, a copy from 1 to 4, and a pool
abbrev pub tells_route : Data → Bool
tells_route d = is_text (codes "class") d && (has_number 1 4 (codes "copy") d && is_text (codes "pool") d)

-- a mount policy has a name, priorities up to 1,000,000, and ages up to 31,536,000 seconds
abbrev pub tells_policy : Data → Bool
tells_policy d =
    is_text (codes "name") d && (has_number 0 1000000 (codes "archivePriority") d && (has_number 0 31536000 (codes "archiveMinAge") d
    && (has_number 0 1000000 (codes "retrievePriority") d && has_number 0 31536000 (codes "retrieveMinAge") d)))

-- a mount rule has a kind, the name of a caller in 1 to 128 bytes, and a policy
abbrev pub tells_rule : Data → Bool
tells_rule d = is_some (kind_at d) && (has_text 1 128 (codes "name") d && is_text (codes "policy") d)

-- a library is a text
abbrev pub tells_library : Data → Bool
tells_library d = is_some (as_str d)

-- a tape has a VID, a pool, a library, a capacity of 1 byte to 1 PiB, and a state
abbrev pub tells_tape : Data → Bool
tells_tape d =
    is_text (codes "vid") d && (is_text (codes "pool") d && (is_text (codes "library") d
    && (has_number 1 1125899906842624 (codes "capacity") d && is_some (state_at d))))

-- a drive has a name and a library
abbrev pub tells_drive : Data → Bool
tells_drive d = is_text (codes "name") d && is_text (codes "library") d

-- a directory has a path and a class
abbrev pub tells_directory : Data → Bool
tells_directory d = is_text (codes "path") d && is_text (codes "class") d

-- a call of a drive, the first where the member is none
abbrev pub call : Data → CallKind
call d = unwrap_or (call_at d) Load

-- whether bytes are altered, false where the member is absent or says neither
abbrev pub alter : Data → Bool
alter d = unwrap_or (alter_at d) false

-- a planned failure has a drive, a call, and its number from 1 to 2^32 - 1, and alters bytes only of a read
abbrev pub tells_failure : Data → Bool
tells_failure d =
    is_text (codes "drive") d && (is_some (call_at d) && (has_number 1 4294967295 (codes "number") d
    && (is_some (alter_at d) && (not (alter d) || is_read (call d)))))

-- what a virtual organisation says
abbrev pub vo_told : Data → Vo
vo_told d = record { name = text (codes "name") d; read_drives = number (codes "readDrives") d; write_drives = number (codes "writeDrives") d }

-- what a storage class says
abbrev pub class_told : Data → Class
class_told d = record { name = text (codes "name") d; vo = text (codes "vo") d; copies = number (codes "copies") d }

-- what a tape pool says
abbrev pub pool_told : Data → TapePool
pool_told d = record { name = text (codes "name") d; vo = text (codes "vo") d }

-- what an archive route says
abbrev pub route_told : Data → Route
route_told d = record { class = text (codes "class") d; copy = number (codes "copy") d; pool = text (codes "pool") d }

-- what a mount policy says
abbrev pub policy_told : Data → Policy
policy_told d = record {
  name = text (codes "name") d;
  archive_priority = number (codes "archivePriority") d;
  archive_min_age = number (codes "archiveMinAge") d;
  retrieve_priority = number (codes "retrievePriority") d;
  retrieve_min_age = number (codes "retrieveMinAge") d;
}

-- what a mount rule says
abbrev pub rule_told : Data → Rule
rule_told d = record { kind = unwrap_or (kind_at d) Requester; name = text (codes "name") d; policy = text (codes "policy") d }

-- the name that a library is
abbrev pub library_told : Data → List ℕ
library_told d = unwrap_or (as_str d) []

-- what a tape says
abbrev pub tape_told : Data → Tape
tape_told d = record {
  vid = text (codes "vid") d;
  pool = text (codes "pool") d;
  library = text (codes "library") d;
  capacity = number (codes "capacity") d;
  state = unwrap_or (state_at d) Active;
}

-- what a drive says
abbrev pub drive_told : Data → Drive
drive_told d = record { name = text (codes "name") d; library = text (codes "library") d }

-- what a directory says
abbrev pub directory_told : Data → Directory
directory_told d = record { path = text (codes "path") d; class = text (codes "class") d }

-- what a planned failure says
abbrev pub failure_told : Data → Failure
failure_told d = record { drive = text (codes "drive") d; call = call d; number = number (codes "number") d; alter = alter d }
