-- The table of open mounts of a history, and its drives that are down.
use Rattle.std.specs.Prelude.{ℕ, ◌≡◌, List, [], ◌∷◌, Option, Some, None, true, if◌then◌else◌, reverse}
use Rattle.cta_site.specs.declared.site.Site.{Site}
use Rattle.cta_model.specs.declared.asks.Ask.{Ask}
use Rattle.cta_model.specs.declared.asks.Ask.TheVariants as ask
use Rattle.cta_model.specs.declared.asks.Direction.{Direction}
use Rattle.cta_model.specs.declared.asks.Fault.{Fault}
use Rattle.cta_model.specs.declared.answers.Answer.{Answer}
use Rattle.cta_model.specs.declared.answers.Answer.TheVariants as answer
use Rattle.cta_model.specs.declared.states.Mount.{Mount}
use Rattle.cta_model.specs.History.{History, has_number}
use Rattle.cta_model.specs.Mounts.{is_busy, is_down, is_mounted, is_open, last_batch, mount_of, open_mounts, puts_down}
use Rattle.cta_model.specs.Choice.{key_of_mount, mounts_of_key}
use Rattle.part_model.specs.declared.mounts.OpenMount.{OpenMount}
use Rattle.part_model.specs.Mounts.{claimed, count_of_key, ended, has_drive, has_mount, has_tape, last_items, opened, row_of, set_down, set_up}

-- ---- open mounts

-- a row stands for a mount: it has the mount's number, drive, direction and tape, the key of its queue, and the items of its last Claim
pub record IsRow (site : Site) (h : History) (m : ℕ) (r : OpenMount) : Type 0 where
  pub number : r.number ≡ m
  pub mount : mount_of h m ≡ Some (record { drive = r.drive; direction = r.direction; tape = r.tape })
  pub key : r.key ≡ key_of_mount site r.direction r.tape
  pub last : last_items r ≡ last_batch h m

-- rows stand for mounts, one for each, in their order
abbrev pub AreRows : Site → History → List OpenMount → List ℕ → Type 0
AreRows site h [] [] = Unit {0}
AreRows site h [] (m ∷ ms) = ⊥
AreRows site h (r ∷ rows) [] = ⊥
AreRows site h (r ∷ rows) (m ∷ ms) = IsRow site h m r × AreRows site h rows ms

-- rows stand for the open mounts of a history, oldest first
abbrev pub AreOpenMounts : Site → History → List OpenMount → Type 0
AreOpenMounts site h rows = AreRows site h rows (reverse (open_mounts h))

-- the row of a mount that a Next opens
abbrev pub new_row : Site → ℕ → Mount → OpenMount
new_row site n x = record { number = n; drive = x.drive; direction = x.direction; tape = x.tape; key = key_of_mount site x.direction x.tape; last = None }

-- the rows after an entry with this ask and answer: a Next opens its mount, an End ends it, and a Claim gives it its last items
abbrev pub rows_after : Site → Ask → Answer → List OpenMount → List OpenMount
rows_after site (ask.Next d) (answer.Mounted m way v) rows = opened (new_row site m (record { drive = d; direction = way; tape = v })) rows
rows_after site (ask.End m fault) a rows = ended m rows
rows_after site (ask.Claim m) (answer.Batch items evicted) rows = claimed m items rows
rows_after site _ a rows = rows

-- what rows tell of a history: whether a mount is open, a tape mounted and a drive busy, how many mounts a key has, and the row of each
-- open mount, which has the items of its last Claim
pub record RowsTell (site : Site) (h : History) (rows : List OpenMount) : Type 0 where
  pub opens : (m : ℕ) → has_mount m rows ≡ is_open h m
  pub mounts : (v : ℕ) → has_tape v rows ≡ is_mounted h v
  pub busy : (d : ℕ) → has_drive d rows ≡ is_busy h d
  pub keys : (way : Direction) (key : ℕ) → count_of_key way key rows ≡ mounts_of_key site h way key
  pub row : (m : ℕ) → is_open h m ≡ true → (r : OpenMount) × (row_of m rows ≡ Some r) × IsRow site h m r

-- ---- drives that are down

-- these are the drives that are down in a history
abbrev pub AreDown : History → List ℕ → Type 0
AreDown h downs = (d : ℕ) → has_number d downs ≡ is_down h d

-- the drives that are down after the End of a mount with this row: its drive too, where it ends with a fault that puts it down
abbrev pub downs_behind : Option Fault → Option OpenMount → List ℕ → List ℕ
downs_behind fault None downs = downs
downs_behind fault (Some r) downs = if puts_down fault then set_down r.drive downs else downs

-- the drives that are down after an ask, where these are the rows before it
abbrev pub downs_after : Ask → List OpenMount → List ℕ → List ℕ
downs_after (ask.DriveUp who d) rows downs = set_up d downs
downs_after (ask.DriveDown who d) rows downs = set_down d downs
downs_after (ask.End m fault) rows downs = downs_behind fault (row_of m rows) downs
downs_after _ rows downs = downs
