-- Choices as bytes, with what follows: one byte, the place of the variant from 0.
use Rattle.std.specs.Prelude.{ℕ, List, ◌∷◌}
use Rattle.cta_model.specs.declared.asks.Direction.{Direction}
use Rattle.cta_model.specs.declared.asks.Direction.TheVariants as way
use Rattle.cta_model.specs.declared.asks.Fate.{Fate}
use Rattle.cta_model.specs.declared.asks.Fate.TheVariants as fate
use Rattle.cta_site.specs.declared.site.TapeState.{TapeState}
use Rattle.cta_site.specs.declared.site.TapeState.TheVariants as tape
use Rattle.cta_model.specs.declared.reports.FileState.{FileState}
use Rattle.cta_model.specs.declared.reports.FileState.TheVariants as file
use Rattle.cta_model.specs.declared.reports.Locality.{Locality}
use Rattle.cta_model.specs.declared.reports.Locality.TheVariants as locality
use Rattle.cta_model.specs.declared.reports.ItemState.{ItemState}
use Rattle.cta_model.specs.declared.reports.ItemState.TheVariants as item
use Rattle.cta_model.specs.declared.answers.Refusal.{Refusal}
use Rattle.cta_model.specs.declared.answers.Refusal.TheVariants as refusal

-- which way a mount goes
abbrev pub direction_before : Direction → List ℕ → List ℕ
direction_before way.Archive rest = 0 ∷ rest
direction_before way.Retrieve rest = 1 ∷ rest

-- what became of an item
abbrev pub fate_before : Fate → List ℕ → List ℕ
fate_before fate.Done rest = 0 ∷ rest
fate_before fate.Stale rest = 1 ∷ rest

-- the state of a tape
abbrev pub tape_state_before : TapeState → List ℕ → List ℕ
tape_state_before tape.Active rest = 0 ∷ rest
tape_state_before tape.Disabled rest = 1 ∷ rest
tape_state_before tape.Broken rest = 2 ∷ rest
tape_state_before tape.Repacking rest = 3 ∷ rest

-- the state of a file in a stage request
abbrev pub file_state_before : FileState → List ℕ → List ℕ
file_state_before file.Submitted rest = 0 ∷ rest
file_state_before file.Started rest = 1 ∷ rest
file_state_before file.Completed rest = 2 ∷ rest
file_state_before file.Failed rest = 3 ∷ rest
file_state_before file.Cancelled rest = 4 ∷ rest

-- where a file is kept
abbrev pub locality_before : Locality → List ℕ → List ℕ
locality_before locality.DiskAndTape rest = 0 ∷ rest
locality_before locality.Tape rest = 1 ∷ rest
locality_before locality.Disk rest = 2 ∷ rest
locality_before locality.Unavailable rest = 3 ∷ rest
locality_before locality.Lost rest = 4 ∷ rest

-- the state of an item of a repack
abbrev pub item_state_before : ItemState → List ℕ → List ℕ
item_state_before item.Reading rest = 0 ∷ rest
item_state_before item.Writing rest = 1 ∷ rest
item_state_before item.Done rest = 2 ∷ rest
item_state_before item.Failed rest = 3 ∷ rest
item_state_before item.Gone rest = 4 ∷ rest

-- why the archive refuses
abbrev pub refusal_before : Refusal → List ℕ → List ℕ
refusal_before refusal.BadPath rest = 0 ∷ rest
refusal_before refusal.NoDirectory rest = 1 ∷ rest
refusal_before refusal.PathTaken rest = 2 ∷ rest
refusal_before refusal.NoSpace rest = 3 ∷ rest
refusal_before refusal.HistoryFull rest = 4 ∷ rest
refusal_before refusal.NoFile rest = 5 ∷ rest
refusal_before refusal.NotResident rest = 6 ∷ rest
refusal_before refusal.NoRequest rest = 7 ∷ rest
refusal_before refusal.ForeignPath rest = 8 ∷ rest
refusal_before refusal.NoDrive rest = 9 ∷ rest
refusal_before refusal.NoTape rest = 10 ∷ rest
refusal_before refusal.TapeMounted rest = 11 ∷ rest
refusal_before refusal.TapeBroken rest = 12 ∷ rest
refusal_before refusal.LiveFiles rest = 13 ∷ rest
refusal_before refusal.NotRepacking rest = 14 ∷ rest
refusal_before refusal.RepackLive rest = 15 ∷ rest
refusal_before refusal.NoRepack rest = 16 ∷ rest
refusal_before refusal.Unknown rest = 17 ∷ rest
