-- The reports of the archive as JSON values (RFC 8259): the members in byte order of their names, one that has no value left out.
use Rattle.std.specs.Prelude.{ℕ, ◌+◌, List, [], ◌∷◌, length, map, Option, Some, None, option_map, codes}
use Rattle.std.specs.Int.{to_be_bytes, w128}
use Rattle.uuid.specs.Text.{hyphenated_text, lower}
use Rattle.serde_json.specs.Data.{Data, number, unsigned, string, boolean, array, object, Members, no_members, member}
use Rattle.serde_json.specs.View.{items_of}
use Rattle.serde_json.specs.Written.{compact_text}
use Rattle.cta_site.specs.declared.site.TapeState.{TapeState}
use Rattle.cta_site.specs.declared.site.TapeState.TheVariants.{Active, Disabled, Broken, Repacking as Emptied}
use Rattle.cta_model.specs.declared.asks.Direction.{Direction}
use Rattle.cta_model.specs.declared.asks.Direction.TheVariants.{Archive, Retrieve}
use Rattle.cta_model.specs.declared.reports.FileState.{FileState}
use Rattle.cta_model.specs.declared.reports.FileState.TheVariants as FileStates
use Rattle.cta_model.specs.declared.reports.Locality.{Locality}
use Rattle.cta_model.specs.declared.reports.Locality.TheVariants as Localities
use Rattle.cta_model.specs.declared.reports.ItemState.{ItemState}
use Rattle.cta_model.specs.declared.reports.ItemState.TheVariants as ItemStates
use Rattle.cta_model.specs.declared.reports.StageInfo.{StageInfo}
use Rattle.cta_model.specs.declared.reports.StageFileInfo.{StageFileInfo}
use Rattle.cta_model.specs.declared.reports.PlaceInfo.{PlaceInfo}
use Rattle.cta_model.specs.declared.reports.RepackInfo.{RepackInfo}
use Rattle.cta_model.specs.declared.reports.RepackItem.{RepackItem}
use Rattle.cta_model.specs.declared.reports.FailedCopy.{FailedCopy}
use Rattle.cta_model.specs.declared.reports.TapeInfo.{TapeInfo}
use Rattle.cta_model.specs.declared.reports.QueueInfo.{QueueInfo}
use Rattle.cta_model.specs.declared.answers.Answer.{Answer}
use Rattle.cta_model.specs.declared.answers.Answer.TheVariants.{Staged, Repacking, Retried, Stage, Places, RepackSeen, FailedSeen, TapeSeen, QueuesSeen, Refused}
use Rattle.cta_model.specs.declared.answers.Refusal.{Refusal}
use Rattle.cta_model.specs.declared.answers.Refusal.TheVariants as Refusals

-- a number
abbrev pub count : ℕ → Data
count n = number (unsigned n)

-- a member before the rest, left out where it has no value
abbrev pub if_any : List ℕ → Option Data → Members → Members
if_any name None rest = rest
if_any name (Some value) rest = member name value rest

-- those of these members that have a value
abbrev pub given : List (List ℕ × Option Data) → Members
given [] = no_members
given (m ∷ ms) = if_any m.0 m.1 (given ms)

-- the array of what each item is reported as
abbrev pub list_report : {A : Type 0} → (A → Data) → List A → Data
list_report report xs = array (items_of (map report xs))

-- the id of a request is the lower-case hyphenated UUID of this number and its own
abbrev pub id_text : ℕ → List ℕ
id_text n = hyphenated_text lower (to_be_bytes w128 (0x00000000000080008000000000000000 + n))

-- the state of a file in a stage request
abbrev pub file_state_name : FileState → List ℕ
file_state_name FileStates.Submitted = codes "SUBMITTED"
file_state_name FileStates.Started = codes "STARTED"
file_state_name FileStates.Completed = codes "COMPLETED"
file_state_name FileStates.Failed = codes "FAILED"
file_state_name FileStates.Cancelled = codes "CANCELLED"

-- a file of a stage request
abbrev pub file_report : StageFileInfo → Data
file_report f = object (given (
    (codes "error", option_map string f.error)
    ∷ (codes "finishedAt", option_map count f.finished_at)
    ∷ (codes "onDisk", Some (boolean f.on_disk))
    ∷ (codes "path", Some (string f.path))
    ∷ (codes "startedAt", option_map count f.started_at)
    ∷ (codes "state", Some (string (file_state_name f.state)))
    ∷ []))

-- a stage request
abbrev pub stage_report : StageInfo → Data
stage_report s = object (given (
    (codes "completedAt", option_map count s.completed_at)
    ∷ (codes "createdAt", Some (count s.created_at))
    ∷ (codes "files", Some (list_report file_report s.files.items))
    ∷ (codes "id", Some (string (id_text s.id)))
    ∷ (codes "startedAt", option_map count s.started_at)
    ∷ []))

-- where a file is kept
abbrev pub locality_name : Locality → List ℕ
locality_name Localities.DiskAndTape = codes "DISK_AND_TAPE"
locality_name Localities.Tape = codes "TAPE"
locality_name Localities.Disk = codes "DISK"
locality_name Localities.Unavailable = codes "UNAVAILABLE"
locality_name Localities.Lost = codes "LOST"

-- the locality of a path, or its error
abbrev pub place_report : PlaceInfo → Data
place_report p = object (given (
    (codes "error", option_map string p.error)
    ∷ (codes "locality", option_map (λ l. string (locality_name l)) p.locality)
    ∷ (codes "path", Some (string p.path))
    ∷ []))

-- the state of an item of a repack
abbrev pub item_state_name : ItemState → List ℕ
item_state_name ItemStates.Reading = codes "READING"
item_state_name ItemStates.Writing = codes "WRITING"
item_state_name ItemStates.Done = codes "DONE"
item_state_name ItemStates.Failed = codes "FAILED"
item_state_name ItemStates.Gone = codes "GONE"

-- an item of a repack
abbrev pub repack_item_report : RepackItem → Data
repack_item_report i = object (given (
    (codes "copy", Some (count i.copy))
    ∷ (codes "path", Some (string i.path))
    ∷ (codes "state", Some (string (item_state_name i.state)))
    ∷ []))

-- a repack
abbrev pub repack_report : RepackInfo → Data
repack_report r = object (given (
    (codes "id", Some (string (id_text r.id)))
    ∷ (codes "items", Some (list_report repack_item_report r.items.items))
    ∷ (codes "vid", Some (string r.vid))
    ∷ []))

-- a failed copy
abbrev pub failed_report : FailedCopy → Data
failed_report f = object (given (
    (codes "copy", Some (count f.copy))
    ∷ (codes "errors", Some (list_report string f.errors.items))
    ∷ (codes "path", Some (string f.path))
    ∷ []))

-- the state of a tape
abbrev pub tape_state_name : TapeState → List ℕ
tape_state_name Active = codes "ACTIVE"
tape_state_name Disabled = codes "DISABLED"
tape_state_name Broken = codes "BROKEN"
tape_state_name Emptied = codes "REPACKING"

-- a tape
abbrev pub tape_report : TapeInfo → Data
tape_report t = object (given (
    (codes "files", Some (count t.files))
    ∷ (codes "nextFseq", Some (count t.next_fseq))
    ∷ (codes "state", Some (string (tape_state_name t.state)))
    ∷ (codes "used", Some (count t.used))
    ∷ (codes "vid", Some (string t.vid))
    ∷ []))

-- the direction of a queue
abbrev pub direction_name : Direction → List ℕ
direction_name Archive = codes "archive"
direction_name Retrieve = codes "retrieve"

-- a queue
abbrev pub queue_report : QueueInfo → Data
queue_report q = object (given (
    (codes "bytes", Some (count q.bytes))
    ∷ (codes "direction", Some (string (direction_name q.direction)))
    ∷ (codes "files", Some (count q.files))
    ∷ (codes "key", Some (string q.key))
    ∷ (codes "oldest", Some (count q.oldest))
    ∷ []))

-- the text of each refusal that a caller can get
abbrev pub refusal_text : Refusal → Option (List ℕ)
refusal_text Refusals.BadPath = Some (codes "bad path")
refusal_text Refusals.NoDirectory = Some (codes "no directory")
refusal_text Refusals.PathTaken = Some (codes "path taken")
refusal_text Refusals.NoSpace = Some (codes "no space")
refusal_text Refusals.HistoryFull = Some (codes "history is full")
refusal_text Refusals.NoFile = Some (codes "no such file")
refusal_text Refusals.NotResident = Some (codes "not on disk")
refusal_text Refusals.NoRequest = Some (codes "no such request")
refusal_text Refusals.ForeignPath = Some (codes "path not in request")
refusal_text Refusals.NoDrive = Some (codes "no such drive")
refusal_text Refusals.NoTape = Some (codes "no such tape")
refusal_text Refusals.TapeMounted = Some (codes "tape is mounted")
refusal_text Refusals.TapeBroken = Some (codes "tape is broken")
refusal_text Refusals.LiveFiles = Some (codes "tape has live files")
refusal_text Refusals.NotRepacking = Some (codes "tape is not repacking")
refusal_text Refusals.RepackLive = Some (codes "repack is live")
refusal_text Refusals.NoRepack = Some (codes "no such repack")
refusal_text Refusals.Unknown = None

-- an object with one member
abbrev pub one_member : List ℕ → Data → Data
one_member name value = object (member name value no_members)

-- the value of an answer whose reply has a JSON body
abbrev pub report_of : Answer → Option Data
report_of (Staged id) = Some (one_member (codes "requestId") (string (id_text id)))
report_of (Repacking id items) = Some (one_member (codes "repackId") (string (id_text id)))
report_of (Retried jobs) = Some (one_member (codes "retried") (count (length jobs.items)))
report_of (Stage s) = Some (stage_report s)
report_of (Places ps) = Some (list_report place_report ps.items)
report_of (RepackSeen r) = Some (repack_report r)
report_of (FailedSeen fs) = Some (list_report failed_report fs.items)
report_of (TapeSeen t) = Some (tape_report t)
report_of (QueuesSeen qs) = Some (list_report queue_report qs.items)
report_of (Refused refusal) = option_map (λ text. one_member (codes "error") (string text)) (refusal_text refusal)
report_of _ = None

-- the text of an answer whose reply has a JSON body: its value with no blanks
abbrev pub report_text : Answer → Option (List ℕ)
report_text answer = option_map compact_text (report_of answer)
