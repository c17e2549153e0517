-- The buffer: the resident files by arrival, the bytes set aside for claimed recalls, the pins, and what its calls do.
use Rattle.std.specs.Prelude.{ℕ, zero, suc, ◌≡◌, ◌+◌, ◌-◌, List, [], ◌∷◌, ◌++◌, Option, Some, None, Bool, true, false, not, ◌==◌, ◌&&◌, if◌then◌else◌, filter, map, min, nat_lt}
use Rattle.std.specs.List.{list_any}
use Rattle.cta_model.specs.History.{has_number}
use Rattle.cta_model.specs.Pins.{Pin}
use Rattle.part_model.specs.declared.space.Resident.{Resident}
use Rattle.part_model.specs.declared.space.HeldPin.{HeldPin}

-- what the buffer holds: its size, the resident files by arrival, the bytes set aside for claimed recalls, and the pins
pub record Held : Type 0 where
  pub size : ℕ
  pub files : List Resident
  pub aside : ℕ
  pub pins : List HeldPin

-- ---- what the buffer can be asked

-- the bytes of these resident files
abbrev pub bytes_of : List Resident → ℕ
bytes_of [] = 0
bytes_of (r ∷ rs) = r.len + bytes_of rs

-- the bytes of the buffer that are free
abbrev pub free_in : Held → ℕ
free_in v = v.size - (bytes_of v.files + v.aside)

-- the numbers of these files
abbrev pub numbers : List Resident → List ℕ
numbers rs = map (λ (r : Resident). r.file) rs

-- whether the buffer holds the file
abbrev pub is_held : Held → ℕ → Bool
is_held v f = has_number f (numbers v.files)

-- whether some owner pins the file at t
abbrev pub pinned_in : List HeldPin → ℕ → ℕ → Bool
pinned_in ps t f = list_any (λ (p : HeldPin). p.file == f && nat_lt t p.until) ps

-- whether this owner pins the file at t
abbrev pub pins_in : List HeldPin → ℕ → ℕ → ℕ → Bool
pins_in ps t f owner = list_any (λ (p : HeldPin). p.owner == owner && (p.file == f && nat_lt t p.until)) ps

-- the evictable files at t, by arrival
abbrev pub evictable_in : Held → ℕ → List Resident
evictable_in v t = filter (λ (r : Resident). not (pinned_in v.pins t r.file) && r.safe) v.files

-- the shortest prefix whose sizes add up to this
abbrev pub prefix_of : ℕ → List Resident → List Resident
prefix_of zero rs = []
prefix_of (suc n) [] = []
prefix_of (suc n) (r ∷ rs) = r ∷ prefix_of (suc n - r.len) rs

-- the files that are evicted at t to make room for this many bytes
abbrev pub evicted_for : Held → ℕ → ℕ → List ℕ
evicted_for v t need = numbers (prefix_of (need - free_in v) (evictable_in v t))

-- ---- files that leave, and flags

-- those whose files are not listed
abbrev pub without : List ℕ → List Resident → List Resident
without gone rs = filter (λ (r : Resident). not (has_number r.file gone)) rs

-- the pins of files that are not listed
abbrev pub pins_without : List ℕ → List HeldPin → List HeldPin
pins_without gone ps = filter (λ (p : HeldPin). not (has_number p.file gone)) ps

-- those that pass a test with a new flag
abbrev pub flagged : (ℕ → Bool) → (ℕ → Bool) → List Resident → List Resident
flagged touched safe rs = map (λ (r : Resident). if touched r.file then record r { safe = safe r.file } else r) rs

-- ---- ends of pins

-- the moment that stands for no end: the greatest number
abbrev pub no_end : ℕ
no_end = 18446744073709551615

-- the end of a pin as the buffer keeps it: a pin without an end gets the greatest number, and a longer end is cut to it
abbrev pub kept_end : Option ℕ → ℕ
kept_end None = no_end
kept_end (Some end) = min end no_end

-- pins of a file as the buffer keeps them
abbrev pub held_pins : ℕ → List Pin → List HeldPin
held_pins f ps = map (λ (p : Pin). record { file = f; owner = p.owner; until = kept_end p.until }) ps

-- ---- calls

-- `evict(at, need, out)`: what leaves takes its pins along
abbrev pub evict : Held → ℕ → ℕ → Held
evict v t need = record v { files = without (evicted_for v t need) v.files; pins = pins_without (evicted_for v t need) v.pins }

-- `enter(file, blob)`: a file of this length comes last, with no flag
abbrev pub enter : Held → ℕ → ℕ → Held
enter v f len = record v { files = v.files ++ record { file = f; len = len; safe = false } ∷ [] }

-- `remove(file)`: the file leaves with its pins
abbrev pub remove : Held → ℕ → Held
remove v f = record v { files = without (f ∷ []) v.files; pins = pins_without (f ∷ []) v.pins }

-- `hold(bytes)`: more bytes are set aside
abbrev pub hold : Held → ℕ → Held
hold v n = record v { aside = v.aside + n }

-- `unhold(bytes)`: fewer bytes are set aside
abbrev pub unhold : Held → ℕ → Held
unhold v n = record v { aside = v.aside - n }

-- `pin(file, owner, until)`: one pin more
abbrev pub pin : Held → ℕ → ℕ → ℕ → Held
pin v f o u = record v { pins = record { file = f; owner = o; until = u } ∷ v.pins }

-- `pin` for each of these, the last first
abbrev pub pin_all : List HeldPin → Held → Held
pin_all [] v = v
pin_all (p ∷ ps) v = pin (pin_all ps v) p.file p.owner p.until

-- `unpin(file, owner)`: the owner pins the file no more
abbrev pub unpin : Held → ℕ → ℕ → Held
unpin v f o = record v { pins = filter (λ (p : HeldPin). not (p.file == f && p.owner == o)) v.pins }

-- `unpin` for each of these files and owners
abbrev pub unpin_all : List (ℕ × ℕ) → Held → Held
unpin_all [] v = v
unpin_all (x ∷ xs) v = unpin_all xs (unpin v x.0 x.1)

-- `set_safe(file, safe)`: the file has this flag
abbrev pub set_safe : Held → ℕ → Bool → Held
set_safe v f s = record v { files = map (λ (r : Resident). if r.file == f then record r { safe = s } else r) v.files }

-- `set_safe` for each of these files, with its flag
abbrev pub set_all : (ℕ → Bool) → List ℕ → Held → Held
set_all safe [] v = v
set_all safe (f ∷ fs) v = set_all safe fs (set_safe v f (safe f))

-- ---- what holds of a buffer, and of two

-- the part's own rule: each pin is of a file that the buffer holds
abbrev pub ArePinsHeld : Held → Type 0
ArePinsHeld v = (t f id : ℕ) → pins_in v.pins t f id ≡ true → is_held v f ≡ true

-- the buffers hold the same, and have the same pins in whatever order
pub record HeldAgree (v w : Held) : Type 0 where
  pub size : v.size ≡ w.size
  pub files : v.files ≡ w.files
  pub aside : v.aside ≡ w.aside
  pub pins : (t f id : ℕ) → pins_in v.pins t f id ≡ pins_in w.pins t f id
