-- What a close reads of a connection, where that tells what it has left.
use Rattle.std.specs.Prelude.{◌≡◌, ℕ, ◌≤◌, List, length}
use Rattle.std.specs.declared.option.Option.{Option}
use Rattle.std.specs.Io.KnownBytes.{Consumes, IsAtEnd}
use Rattle.outside.specs.declared.drain.DrainEnd.{DrainEnd}
use Rattle.outside.specs.declared.drain.DrainEnd.TheVariants as end

-- the first n bytes of those left were dropped
abbrev pub Drops : Option (List ℕ) → Option (List ℕ) → ℕ → Type 0
Drops old new n = (bs : List ℕ) × Consumes old new bs × (length bs ≡ n)

-- up to 1 MiB was dropped: all that was left where the other end has ended, and just 1 MiB where that was too much
abbrev pub Drains : Option (List ℕ) → Option (List ℕ) → DrainEnd → Type 0
Drains old new end.Ended = (n : ℕ) × (n ≤ 1_048_576) × Drops old new n × IsAtEnd new
Drains old new end.Full = Drops old new 1_048_576
Drains old new end.Stopped = (n : ℕ) × (n ≤ 1_048_576) × Drops old new n
