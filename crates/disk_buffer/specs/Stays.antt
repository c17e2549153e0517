-- The resident files with the greatest ends of their pins, and how rows tell them.
use Rattle.std.specs.Prelude.{ℕ, ◌≡◌, ◌<◌, List, [], ◌∷◌, Option, Some, None, Bool, true, not, ◌==◌, ◌&&◌, if◌then◌else◌, map, filter, nat_le, nat_lt}
use Rattle.blob.specs.declared.sum.Sum256.{Sum256}
use Rattle.cta_model.specs.History.{has_number}
use Rattle.part_model.specs.declared.space.Resident.{Resident}
use Rattle.part_model.specs.Held.{bytes_of, numbers}
use Rattle.sum_trees.specs.Order.{has_like, is_like}
use Rattle.disk_buffer.specs.declared.row.Row.{Row}
use Rattle.disk_buffer.specs.Rows.{row_before}

-- a resident file, and the moment up to which it is pinned
pub record Stay : Type 0 where
  pub file : ℕ
  pub len : ℕ
  pub safe : Bool
  pub until : ℕ

-- what the resident files are, the sum of each one's content, and for how many more there is room
pub record Arrived : Type 0 where
  pub stays : List Stay
  pub contents : List (ℕ × Sum256)
  pub room : ℕ

-- the sum of a file's content, none where there is none
abbrev pub content_in : List (ℕ × Sum256) → ℕ → Option Sum256
content_in [] f = None
content_in (x ∷ xs) f = if x.0 == f then Some x.1 else content_in xs f

-- what a row tells
abbrev pub stay_of : Row → Stay
stay_of r = record { file = r.file; len = r.len; safe = r.safe; until = r.until }

-- what rows tell
abbrev pub stays_of : List Row → List Stay
stays_of rs = map stay_of rs

-- the file as the buffer tells it
abbrev pub resident_of : Stay → Resident
resident_of s = record { file = s.file; len = s.len; safe = s.safe }

-- the files as the buffer tells them
abbrev pub residents : List Stay → List Resident
residents ss = map resident_of ss

-- whether a file may go at t
abbrev pub may_go : ℕ → Stay → Bool
may_go t s = not (nat_lt t s.until) && s.safe

-- the files that may go at t
abbrev pub going : ℕ → List Stay → List Resident
going t ss = residents (filter (may_go t) ss)

-- whether the file is resident
abbrev pub is_there : List Stay → ℕ → Bool
is_there ss f = has_number f (numbers (residents ss))

-- with another end of the file's pins
abbrev pub with_end : ℕ → ℕ → List Stay → List Stay
with_end f u ss = map (λ (s : Stay). if s.file == f then record s { until = u } else s) ss

-- with another flag of the file
abbrev pub with_flag : ℕ → Bool → List Stay → List Stay
with_flag f b ss = map (λ (s : Stay). if s.file == f then record s { safe = b } else s) ss

-- without the file
abbrev pub without_file : ℕ → List Stay → List Stay
without_file f ss = filter (λ (s : Stay). not (has_number s.file (f ∷ []))) ss

-- ---- what holds of the rows

-- the arrival of a file, none where it is not there
abbrev pub arrival_in : List Row → ℕ → Option ℕ
arrival_in [] f = None
arrival_in (r ∷ rs) f = if r.file == f then Some r.arrival else arrival_in rs f

-- no two rows are of one file
abbrev pub AreApart : List Row → Type 0
AreApart [] = Unit {0}
AreApart (r ∷ rs) = (arrival_in rs r.file ≡ None) × AreApart rs

-- whether a row may go at t
abbrev pub is_free : ℕ → Row → Bool
is_free t r = r.safe && nat_le r.until t

-- the row with another end of the pins of its file, at a moment
abbrev pub ended : ℕ → ℕ → Row → Row
ended u t r = record { arrival = r.arrival; len = r.len; until = u; file = r.file; safe = r.safe; ready = r.safe && nat_le u t }

-- the row with another flag of its file, at a moment
abbrev pub flagged : Bool → ℕ → Row → Row
flagged b t r = record { arrival = r.arrival; len = r.len; until = r.until; file = r.file; safe = b; ready = b && nat_le r.until t }

-- exactly the rows that may go at the moment are ready
abbrev pub AreReady : ℕ → List Row → Type 0
AreReady t [] = Unit {0}
AreReady t (r ∷ rs) = (r.ready ≡ is_free t r) × AreReady t rs

-- each row has an earlier number than this one
abbrev pub AreEarly : ℕ → List Row → Type 0
AreEarly n [] = Unit {0}
AreEarly n (r ∷ rs) = (r.arrival < n) × AreEarly n rs

-- the rows are of different files, found by these places, ready at this moment, arrived before this number, and of so many bytes
pub record AreKept (rows : List Row) (places : ℕ → Option ℕ) (clock next bytes : ℕ) : Type 0 where
  pub apart : AreApart rows
  pub found : (f : ℕ) → places f ≡ arrival_in rows f
  pub flags : AreReady clock rows
  pub early : AreEarly next rows
  pub total : bytes ≡ bytes_of (residents (stays_of rows))

-- the row is the file's, and the one with its number
abbrev pub IsRowOf : ℕ → Row → List Row → Type 0
IsRowOf f r [] = Unit {0}
IsRowOf f r (x ∷ xs) = (is_like row_before r x ≡ (x.file == f)) × ((x.file == f) ≡ true → x ≡ r) × IsRowOf f r xs

-- the row of the file, or none where it is not there
abbrev pub TellsRow : ℕ → List Row → Option Row → Type 0
TellsRow f rows None = arrival_in rows f ≡ None
TellsRow f rows (Some r) = IsRowOf f r rows × (has_like row_before r rows ≡ true)
