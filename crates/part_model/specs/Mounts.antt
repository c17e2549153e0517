-- The value of the table of open mounts, a row for each, oldest first, and of the drives that are down.
use Rattle.std.specs.Prelude.{ℕ, ◌==◌, ◌&&◌, ◌++◌, List, [], ◌∷◌, Option, Some, option_map, Bool, if◌then◌else◌, length, not, map, filter, find}
use Rattle.std.specs.List.{list_any}
use Rattle.cta_site.specs.Listed.{Listed}
use Rattle.cta_model.specs.declared.asks.Direction.{Direction}
use Rattle.cta_model.specs.declared.asks.Item.{Item}
use Rattle.cta_model.specs.History.{has_number}
use Rattle.cta_model.specs.Mounts.{same_direction}
use Rattle.part_model.specs.declared.mounts.OpenMount.{OpenMount}

-- ---- what the table can be asked

-- the row of the mount with this number
abbrev pub row_of : ℕ → List OpenMount → Option OpenMount
row_of m rows = find (λ (r : OpenMount). r.number == m) rows

-- whether the mount has a row
abbrev pub has_mount : ℕ → List OpenMount → Bool
has_mount m rows = list_any (λ (r : OpenMount). r.number == m) rows

-- whether a mount of the tape has a row
abbrev pub has_tape : ℕ → List OpenMount → Bool
has_tape v rows = list_any (λ (r : OpenMount). r.tape == v) rows

-- whether a mount of the drive has a row
abbrev pub has_drive : ℕ → List OpenMount → Bool
has_drive d rows = list_any (λ (r : OpenMount). r.drive == d) rows

-- how many rows go this way and have this key
abbrev pub count_of_key : Direction → ℕ → List OpenMount → ℕ
count_of_key way key rows = length (filter (λ (r : OpenMount). same_direction r.direction way && r.key == key) rows)

-- the items of the last Claim of a row's mount
abbrev pub last_items : OpenMount → Option (List Item)
last_items r = option_map (λ (items : Listed Item). items.items) r.last

-- ---- what its calls do

-- the rows after a mount is opened: its row comes last
abbrev pub opened : OpenMount → List OpenMount → List OpenMount
opened r rows = rows ++ r ∷ []

-- the rows after a mount is ended
abbrev pub ended : ℕ → List OpenMount → List OpenMount
ended m rows = filter (λ (r : OpenMount). not (r.number == m)) rows

-- a row, with these items as its last where it is of this mount
abbrev pub with_last : ℕ → Listed Item → OpenMount → OpenMount
with_last m items r = record r { last = (if r.number == m then Some items else r.last) }

-- the rows after a mount has claimed these items
abbrev pub claimed : ℕ → Listed Item → List OpenMount → List OpenMount
claimed m items rows = map (with_last m items) rows

-- ---- the drives that are down

-- the drives after one is set down
abbrev pub set_down : ℕ → List ℕ → List ℕ
set_down d downs = if has_number d downs then downs else downs ++ d ∷ []

-- the drives after one is set up
abbrev pub set_up : ℕ → List ℕ → List ℕ
set_up d downs = filter (λ k. not (k == d)) downs
