-- The table of tapes: a row for each tape, the places of the live copies, and what its calls do.
use Rattle.std.specs.Prelude.{ℕ, ◌≡◌, ◌+◌, ◌-◌, length, List, [], ◌∷◌, Option, Some, None, is_some, Bool, false, if◌then◌else◌, ◌==◌, ◌&&◌, not, filter, slice_get}
use Rattle.std.specs.List.{list_any, list_all, range_with_len}
use Rattle.cta_site.specs.declared.site.TapeState.{TapeState}
use Rattle.cta_site.specs.declared.site.TapeState.TheVariants as state
use Rattle.cta_model.specs.declared.states.Place.{Place}
use Rattle.cta_model.specs.declared.asks.Item.{Item}
use Rattle.cta_model.specs.declared.asks.Fate.{Fate}
use Rattle.cta_model.specs.Tapes.{is_broken}
use Rattle.cta_model.specs.Places.{is_copy_of}
use Rattle.part_model.specs.declared.space.TapeRow.{TapeRow}
use Rattle.part_model.specs.declared.space.Placed.{Placed}

-- the table: a row for each tape, by the number of the tape, and the copies that have a place
pub record Table : Type 0 where
  pub rows : List TapeRow
  pub places : List Placed

-- ---- what the table can be asked

-- what stands for a tape that is not there
abbrev pub no_row : TapeRow
no_row = record { used = 0; next = 1; state = state.Broken }

-- a row, or what stands for none
abbrev pub row_or : Option TapeRow → TapeRow
row_or None = no_row
row_or (Some r) = r

-- the row of a tape
abbrev pub row_in : Table → ℕ → TapeRow
row_in v t = row_or (slice_get v.rows t)

-- whether this is the copy of the file
abbrev pub is_placed : ℕ → ℕ → Placed → Bool
is_placed f c p = (p.file == f) && (p.copy == c)

-- the place of a copy among these
abbrev pub place_among : List Placed → ℕ → ℕ → Option Place
place_among [] f c = None
place_among (p ∷ ps) f c = if is_placed f c p then Some p.place else place_among ps f c

-- the place of a copy
abbrev pub place_in : Table → ℕ → ℕ → Option Place
place_in v f c = place_among v.places f c

-- each copy has one place at most
unfoldable pub AreDistinct : List Placed → Type 0
AreDistinct [] = Unit {0}
AreDistinct (p ∷ ps) = (place_among ps p.file p.copy ≡ None) × AreDistinct ps

-- how many copies have their place on a tape
abbrev pub live_in : Table → ℕ → ℕ
live_in v t = length (filter (λ (p : Placed). p.place.tape == t) v.places)

-- whether each copy from 1 to n has a place
abbrev pub all_placed : Table → ℕ → ℕ → Bool
all_placed v f n = list_all (λ c. is_some (place_in v f c)) (range_with_len 1 n)

-- whether there is a place, on a tape that is not BROKEN
abbrev pub is_whole_place : Table → Option Place → Bool
is_whole_place v None = false
is_whole_place v (Some p) = not (is_broken (row_in v p.tape).state)

-- whether one of the copies from 1 to n has a place on a tape that is not BROKEN
abbrev pub some_whole : Table → ℕ → ℕ → Bool
some_whole v f n = list_any (λ c. is_whole_place v (place_in v f c)) (range_with_len 1 n)

-- whether one of the copies from 1 to n has a live archive job, as a book of jobs tells it
abbrev pub some_job : (ℕ → ℕ → Option ℕ) → ℕ → ℕ → Bool
some_job jobs f n = list_any (λ c. is_some (jobs f c)) (range_with_len 1 n)

-- whether a file of n copies is safe on tape, by the table and a book of jobs
abbrev pub safe_in : Table → (ℕ → ℕ → Option ℕ) → ℕ → ℕ → Bool
safe_in v jobs f n = all_placed v f n && (some_whole v f n && not (some_job jobs f n))

-- ---- calls that put items on a tape

-- `flushed(tape, file, copy, len, live)` for an item with its fate: the item gets the next fSeq, and its copy this place where the fate
-- is Done; its bytes were claimed, so that the used bytes stay
pub record HasFlushed (tape : ℕ) (x : Item × Fate) (v v' : Table) : Type 0 where
  pub rows : (t : ℕ) → row_in v' t ≡ (if t == tape then record (row_in v t) { next = (row_in v t).next + 1 } else row_in v t)
  pub places : (f c : ℕ) → place_in v' f c ≡ (if is_copy_of f c x then Some (record { copy = c; tape = tape; fseq = (row_in v tape).next }) else place_in v f c)
  pub distinct : AreDistinct v'.places

-- `flushed` for each item in turn
unfoldable pub HaveFlushed : ℕ → List (Item × Fate) → Table → Table → Type 0
HaveFlushed tape [] v v' = v ≡ v'
HaveFlushed tape (x ∷ xs) v v' = (u : Table) × HasFlushed tape x v u × HaveFlushed tape xs u v'

-- ---- calls that turn one row, or drop a file

-- a call that turns the row of a tape, and leaves all else
pub record HasTurned (tape : ℕ) (turn : TapeRow → TapeRow) (v v' : Table) : Type 0 where
  pub rows : (t : ℕ) → row_in v' t ≡ (if t == tape then turn (row_in v t) else row_in v t)
  pub places : (f c : ℕ) → place_in v' f c ≡ place_in v f c
  pub distinct : AreDistinct v'.places

-- `claim(tape, bytes)` turns the row so: more bytes are used
abbrev pub claimed_row : ℕ → TapeRow → TapeRow
claimed_row n r = record r { used = r.used + n }

-- `unclaim(tape, bytes)` turns the row so: fewer bytes are used
abbrev pub unclaimed_row : ℕ → TapeRow → TapeRow
unclaimed_row n r = record r { used = r.used - n }

-- `set_state(tape, state)` turns the row so: the tape is in this state
abbrev pub row_in_state : TapeState → TapeRow → TapeRow
row_in_state s r = record r { state = s }

-- `reclaim(tape)` turns the row so: nothing is used, and the tape is written from its beginning again
abbrev pub reclaimed_row : TapeRow → TapeRow
reclaimed_row r = record r { used = 0; next = 1 }

-- `drop_file(file)`: the copies of the file have no place, and all else is left
pub record HasDropped (file : ℕ) (v v' : Table) : Type 0 where
  pub rows : (t : ℕ) → row_in v' t ≡ row_in v t
  pub places : (f c : ℕ) → place_in v' f c ≡ (if f == file then None else place_in v f c)
  pub distinct : AreDistinct v'.places

-- the tables tell the same
pub record TablesAgree (v w : Table) : Type 0 where
  pub rows : (t : ℕ) → row_in v t ≡ row_in w t
  pub places : (f c : ℕ) → place_in v f c ≡ place_in w f c
  pub distinct : AreDistinct v.places
