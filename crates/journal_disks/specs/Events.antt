-- What events leave to a crash.
use Rattle.std.specs.Prelude.{◌≡◌, ℕ, ◌≤◌, List, [], ◌∷◌, length, take}
use Rattle.cta_journal.specs.Disk.{Torn, Cut}
use Rattle.journal_disks.specs.declared.events.DiskEvent.{DiskEvent}
use Rattle.journal_disks.specs.declared.events.DiskEvent.TheVariants as event

-- what a crash may leave after one more event
abbrev pub Then : (List ℕ → Type 0) → DiskEvent → List ℕ → Type 0
Then outcomes (event.Written at len) c = (d : List ℕ) × outcomes d × Torn at len d c
Then outcomes (event.Cut len) c = (d : List ℕ) × outcomes d × Cut len d c
Then outcomes (event.Synced bytes) c = outcomes c × (c ≡ bytes.items)

-- what a crash may leave after these events
abbrev pub After : (List ℕ → Type 0) → List DiskEvent → List ℕ → Type 0
After outcomes [] = outcomes
After outcomes (e ∷ es) = After (Then outcomes e) es

-- at first just one content
abbrev pub Just : List ℕ → List ℕ → Type 0
Just first c = c ≡ first

-- what a crash might have left after at least so many of the events
abbrev pub LeftBy : List ℕ → List DiskEvent → ℕ → List ℕ → Type 0
LeftBy first events t c = (j : ℕ) × (t ≤ j) × (j ≤ length events) × After (Just first) (take j events) c

-- a disk in memory: its content at first, what a read gives, what a crash leaves at its worst, and the events since the first
pub record Content : Type 0 where
  pub first : List ℕ
  pub bytes : List ℕ
  pub torn : List ℕ
  pub events : List DiskEvent

-- what a crash may leave of it
abbrev pub Leaves : Content → List ℕ → Type 0
Leaves d = After (Just d.first) d.events

-- what a crash at some moment since t might have left of it
abbrev pub LeftSince : Content → ℕ → List ℕ → Type 0
LeftSince d = LeftBy d.first d.events

-- its moment is how many events there were
abbrev pub moment_of : Content → ℕ
moment_of d = length d.events

-- a crash may leave what a read gives, and it may leave the worst, which is no shorter
pub record IsWhole (d : Content) : Type 0 where
  pub possible : Leaves d d.bytes
  pub tears : Leaves d d.torn
  pub long : length d.bytes ≤ length d.torn
