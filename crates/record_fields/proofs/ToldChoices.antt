-- Choices are told by their bytes.
use Rattle.std.proofs.Common.{◌≡◌, if◌then◌else◌, ◌==◌, List, ℕ, refl}
use Rattle.record_fields.specs.Numbers.{IsAny}
use Rattle.record_fields.specs.Choices.{direction_before, fate_before, file_state_before, item_state_before, locality_before, refusal_before, tape_state_before}
use Rattle.record_fields.proofs.ToldNumbers.{told_byte}
use Rattle.cta_model.specs.declared.asks.Direction.{Direction}
use Rattle.cta_model.specs.declared.asks.Direction.TheVariants as way
use Rattle.cta_model.specs.declared.asks.Fate.{Fate}
use Rattle.cta_model.specs.declared.asks.Fate.TheVariants as fate
use Rattle.cta_site.specs.declared.site.TapeState.{TapeState}
use Rattle.cta_site.specs.declared.site.TapeState.TheVariants as tape
use Rattle.cta_model.specs.declared.reports.FileState.{FileState}
use Rattle.cta_model.specs.declared.reports.FileState.TheVariants as file
use Rattle.cta_model.specs.declared.reports.Locality.{Locality}
use Rattle.cta_model.specs.declared.reports.Locality.TheVariants as locality
use Rattle.cta_model.specs.declared.reports.ItemState.{ItemState}
use Rattle.cta_model.specs.declared.reports.ItemState.TheVariants as item
use Rattle.cta_model.specs.declared.answers.Refusal.{Refusal}
use Rattle.cta_model.specs.declared.answers.Refusal.TheVariants as refusal

abbrev direction_at : ℕ → Direction
direction_at n = if n == 0 then way.Archive else way.Retrieve

pub told_direction : List ℕ → Direction × List ℕ
told_direction bytes = (direction_at (told_byte bytes).0, (told_byte bytes).1)

pub direction_told : (v : Direction) (rest : List ℕ) → IsAny v → told_direction (direction_before v rest) ≡ (v, rest)
unfolding told_direction
direction_told way.Archive rest fit = refl
direction_told way.Retrieve rest fit = refl

abbrev fate_at : ℕ → Fate
fate_at n = if n == 0 then fate.Done else fate.Stale

pub told_fate : List ℕ → Fate × List ℕ
told_fate bytes = (fate_at (told_byte bytes).0, (told_byte bytes).1)

pub fate_told : (v : Fate) (rest : List ℕ) → IsAny v → told_fate (fate_before v rest) ≡ (v, rest)
unfolding told_fate
fate_told fate.Done rest fit = refl
fate_told fate.Stale rest fit = refl

abbrev tape_state_at : ℕ → TapeState
tape_state_at n = if n == 0 then tape.Active else if n == 1 then tape.Disabled else if n == 2 then tape.Broken else tape.Repacking

pub told_tape_state : List ℕ → TapeState × List ℕ
told_tape_state bytes = (tape_state_at (told_byte bytes).0, (told_byte bytes).1)

pub tape_state_told : (v : TapeState) (rest : List ℕ) → IsAny v → told_tape_state (tape_state_before v rest) ≡ (v, rest)
unfolding told_tape_state
tape_state_told tape.Active rest fit = refl
tape_state_told tape.Disabled rest fit = refl
tape_state_told tape.Broken rest fit = refl
tape_state_told tape.Repacking rest fit = refl

abbrev file_state_at : ℕ → FileState
file_state_at n = if n == 0 then file.Submitted else if n == 1 then file.Started else if n == 2 then file.Completed else if n == 3 then file.Failed else file.Cancelled

pub told_file_state : List ℕ → FileState × List ℕ
told_file_state bytes = (file_state_at (told_byte bytes).0, (told_byte bytes).1)

pub file_state_told : (v : FileState) (rest : List ℕ) → IsAny v → told_file_state (file_state_before v rest) ≡ (v, rest)
unfolding told_file_state
file_state_told file.Submitted rest fit = refl
file_state_told file.Started rest fit = refl
file_state_told file.Completed rest fit = refl
file_state_told file.Failed rest fit = refl
file_state_told file.Cancelled rest fit = refl

abbrev locality_at : ℕ → Locality
locality_at n = if n == 0 then locality.DiskAndTape else if n == 1 then locality.Tape else if n == 2 then locality.Disk else if n == 3 then locality.Unavailable else locality.Lost

pub told_locality : List ℕ → Locality × List ℕ
told_locality bytes = (locality_at (told_byte bytes).0, (told_byte bytes).1)

pub locality_told : (v : Locality) (rest : List ℕ) → IsAny v → told_locality (locality_before v rest) ≡ (v, rest)
unfolding told_locality
locality_told locality.DiskAndTape rest fit = refl
locality_told locality.Tape rest fit = refl
locality_told locality.Disk rest fit = refl
locality_told locality.Unavailable rest fit = refl
locality_told locality.Lost rest fit = refl

abbrev item_state_at : ℕ → ItemState
item_state_at n = if n == 0 then item.Reading else if n == 1 then item.Writing else if n == 2 then item.Done else if n == 3 then item.Failed else item.Gone

pub told_item_state : List ℕ → ItemState × List ℕ
told_item_state bytes = (item_state_at (told_byte bytes).0, (told_byte bytes).1)

pub item_state_told : (v : ItemState) (rest : List ℕ) → IsAny v → told_item_state (item_state_before v rest) ≡ (v, rest)
unfolding told_item_state
item_state_told item.Reading rest fit = refl
item_state_told item.Writing rest fit = refl
item_state_told item.Done rest fit = refl
item_state_told item.Failed rest fit = refl
item_state_told item.Gone rest fit = refl

abbrev refusal_at : ℕ → Refusal
refusal_at n = if n == 0 then refusal.BadPath else if n == 1 then refusal.NoDirectory else if n == 2 then refusal.PathTaken else if n == 3 then refusal.NoSpace else if n == 4 then refusal.HistoryFull else if n == 5 then refusal.NoFile else if n == 6 then refusal.NotResident else if n == 7 then refusal.NoRequest else if n == 8 then refusal.ForeignPath else if n == 9 then refusal.NoDrive else if n == 10 then refusal.NoTape else if n == 11 then refusal.TapeMounted else if n == 12 then refusal.TapeBroken else if n == 13 then refusal.LiveFiles else if n == 14 then refusal.NotRepacking else if n == 15 then refusal.RepackLive else if n == 16 then refusal.NoRepack else refusal.Unknown

pub told_refusal : List ℕ → Refusal × List ℕ
told_refusal bytes = (refusal_at (told_byte bytes).0, (told_byte bytes).1)

pub refusal_told : (v : Refusal) (rest : List ℕ) → IsAny v → told_refusal (refusal_before v rest) ≡ (v, rest)
unfolding told_refusal
refusal_told refusal.BadPath rest fit = refl
refusal_told refusal.NoDirectory rest fit = refl
refusal_told refusal.PathTaken rest fit = refl
refusal_told refusal.NoSpace rest fit = refl
refusal_told refusal.HistoryFull rest fit = refl
refusal_told refusal.NoFile rest fit = refl
refusal_told refusal.NotResident rest fit = refl
refusal_told refusal.NoRequest rest fit = refl
refusal_told refusal.ForeignPath rest fit = refl
refusal_told refusal.NoDrive rest fit = refl
refusal_told refusal.NoTape rest fit = refl
refusal_told refusal.TapeMounted rest fit = refl
refusal_told refusal.TapeBroken rest fit = refl
refusal_told refusal.LiveFiles rest fit = refl
refusal_told refusal.NotRepacking rest fit = refl
refusal_told refusal.RepackLive rest fit = refl
refusal_told refusal.NoRepack rest fit = refl
refusal_told refusal.Unknown rest fit = refl
