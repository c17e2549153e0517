-- The book of repacks: what it can be asked, and what its calls do.
use Rattle.std.specs.Prelude.{ℕ, ◌≡◌, List, [], ◌∷◌, Option, Some, None, Bool, true, false, if◌then◌else◌, ◌==◌, ◌&&◌, map, filter}
use Rattle.std.specs.List.{list_any}
use Rattle.cta_model.specs.declared.asks.Job.{Job}
use Rattle.cta_model.specs.declared.reports.ItemState.{ItemState}
use Rattle.cta_model.specs.declared.reports.ItemState.TheVariants as item
use Rattle.cta_model.specs.declared.states.RepackCopy.{RepackCopy}
use Rattle.cta_model.specs.Repacks.{Repack, is_live_item, is_live_on}

-- the repacks, by number
abbrev pub Repacks : Type 0
Repacks = List (ℕ × Repack)

-- ---- what the book can be asked

-- the repack of a number
abbrev pub repack_in : Repacks → ℕ → Option Repack
repack_in [] id = None
repack_in (x ∷ xs) id = if x.0 == id then Some x.1 else repack_in xs id

-- `live(tape)`: whether a repack of the tape has an item that is READING or WRITING
abbrev pub is_live_in : Repacks → ℕ → Bool
is_live_in v t = list_any (λ (x : ℕ × Repack). is_live_on t (repack_in v x.0)) v

-- whether an item is READING
abbrev pub is_reading : ItemState → Bool
is_reading item.Reading = true
is_reading _ = false

-- whether an item is WRITING
abbrev pub is_writing : ItemState → Bool
is_writing item.Writing = true
is_writing _ = false

-- whether there is a repack and one of its items passes the test
abbrev pub has_item_by : (RepackCopy → Bool) → Option Repack → Bool
has_item_by test None = false
has_item_by test (Some r) = list_any test r.items

-- the copies of a file that the repack is still READING, none where there is no repack
abbrev pub reading_copies : ℕ → Option Repack → List ℕ
reading_copies f None = []
reading_copies f (Some r) = map (λ (i : RepackCopy). i.copy) (filter (λ (i : RepackCopy). i.file == f && is_reading i.state) r.items)

-- the repacks that are WRITING this copy of the file
abbrev pub writers_in : Repacks → ℕ → ℕ → List ℕ
writers_in v f c = map (λ (x : ℕ × Repack). x.0) (filter (λ (x : ℕ × Repack). has_item_by (λ (i : RepackCopy). (i.file == f && i.copy == c) && is_writing i.state) (repack_in v x.0)) v)

-- ---- calls

-- `add(id, tape, items)`: one repack more, of these copies, all READING
abbrev pub add_repack : ℕ → ℕ → List Job → Repacks → Repacks
add_repack id tape jobs v = (id, record { tape = tape; items = map (λ (j : Job). record { file = j.file; copy = j.copy; state = item.Reading }) jobs }) ∷ v

-- an item that takes this state where it is this copy of the file and is live
abbrev pub set_item : ℕ → ℕ → ItemState → RepackCopy → RepackCopy
set_item f c s i = if (i.file == f && i.copy == c) && is_live_item i.state then record i { state = s } else i

-- `set(id, file, copy, state)`: the item takes the state
abbrev pub set_state : ℕ → ℕ → ℕ → ItemState → Repacks → Repacks
set_state id f c s v = map (λ (x : ℕ × Repack). if x.0 == id then (x.0, record { tape = x.1.tape; items = map (set_item f c s) x.1.items }) else x) v

-- a repack, a file and a copy
abbrev pub Target : Type 0
Target = ℕ × ℕ × ℕ

-- `set` for each of these items, with the same state
abbrev pub set_states : ItemState → List Target → Repacks → Repacks
set_states s [] v = v
set_states s (x ∷ xs) v = set_states s xs (set_state x.0 x.1 x.2 s v)

-- the books tell the same of each number
abbrev pub RepacksAgree : Repacks → Repacks → Type 0
RepacksAgree v w = (id : ℕ) → repack_in v id ≡ repack_in w id
