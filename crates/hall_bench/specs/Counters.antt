-- What a counter answers. Its history is one unit for each time that it was raised.
use Rattle.std.specs.Prelude.{◌≡◌, ◌+◌, Bool, true, false, List, [], ◌∷◌, ◌++◌, length}
use Rattle.hall_bench.specs.declared.counter.Call.{Call}
use Rattle.hall_bench.specs.declared.counter.Call.TheVariants.{Raise, Count}
use Rattle.hall_bench.specs.declared.counter.Told.{Told}
use Rattle.hall_bench.specs.declared.counter.Told.TheVariants.{Raised, Full, Counted}

-- a call came back so, where the first is the history before it and the second the history after it
abbrev pub Plays : List (Unit {0}) → Call → Told → List (Unit {0}) → Type 0
Plays h (Raise rounds) (Raised n) later = (later ≡ h ++ tt ∷ []) × (n ≡ length h + 1)
Plays h (Raise rounds) Full later = later ≡ h
Plays h (Raise rounds) (Counted n) later = ⊥
Plays h Count (Counted n) later = (later ≡ h) × (n ≡ length h)
Plays h Count _ later = ⊥

-- whether a call that came back so raised the counter
abbrev pub adds : Call → Told → Bool
adds c (Raised n) = true
adds c _ = false
