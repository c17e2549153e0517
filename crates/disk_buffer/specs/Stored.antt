-- What contracts see of the buffer.
use Rattle.std.specs.Prelude.{ℕ, ◌≡◌, List, [], ◌∷◌}
use Rattle.blob.specs.declared.sum.Sum256.{Sum256}
use Rattle.part_model.specs.declared.space.HeldPin.{HeldPin}
use Rattle.part_model.specs.Held.{Held}
use Rattle.part_model.specs.Room.{Roomed}
use Rattle.disk_buffer.specs.PinRows.{end_in}
use Rattle.disk_buffer.specs.Stays.{Stay}

-- what the buffer holds and for how many additions it has room, and by file the sum of each content
pub record Stored : Type 0 where
  pub held : Roomed Held
  pub contents : List (ℕ × Sum256)

-- a buffer of this size that holds nothing
abbrev pub nothing_held : ℕ → Held
nothing_held size = record { size = size; files = []; aside = 0; pins = [] }

-- each file has the greatest end of its pins
abbrev pub AreEnds : List HeldPin → List Stay → Type 0
AreEnds ps [] = Unit {0}
AreEnds ps (s ∷ ss) = (s.until ≡ end_in ps s.file) × AreEnds ps ss
