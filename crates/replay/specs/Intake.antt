-- What a reader of a script took.
use Rattle.std.specs.Prelude.{◌≡◌, ℕ, ◌+◌, ◌<◌, ◌≤◌, List, [], ◌∷◌, ◌++◌, length, take, Result, MatchResult}
use Rattle.std.specs.Io.KnownBytes.{Consumes, IsAtEnd}
use Rattle.outside.specs.Causes.{Rose}
use Rattle.cta_site.specs.Bytes.{Without}
use Rattle.replay.specs.Seen.{ScriptView}
use Rattle.replay.specs.declared.intake.Stop.{Stop}
use Rattle.replay.specs.declared.intake.Stop.TheVariants.{End, Fault, Full, Memory}
use Rattle.replay.specs.declared.intake.LineEnd.{LineEnd}
use Rattle.replay.specs.declared.intake.LineEnd.TheVariants.{Whole, Long, Stopped}

-- the most bytes of a script that are taken
abbrev pub budget : ℕ
budget = 4294967296

-- these bytes were taken, and counted
pub record Took (a b : ScriptView) (bs : List ℕ) : Type 0 where
  pub bytes : Consumes a.left b.left bs
  pub count : b.taken ≡ a.taken + length bs

-- why no further byte was taken: the source is at its end below the budget, its count of faults rose below the budget, the budget is
-- spent, or memory was wanted, for which there is no cause
abbrev pub HasStopped : Stop → ScriptView → ScriptView → Type 0
HasStopped End a b = IsAtEnd b.left × (b.taken < budget)
HasStopped Fault a b = Rose a.faults b.faults × (b.taken < budget)
HasStopped Full a b = b.taken ≡ budget
HasStopped Memory a b = Unit {0}

-- a byte was taken, or none
abbrev pub TookByte : ScriptView → ScriptView → Result ℕ Stop → Type 0
TookByte a b r = MatchResult r (λ byte. Took a b (byte ∷ [])) (λ _. Took a b [])

-- a line was taken into the front of buf, with its LF; or one byte more than a line has; or part of a line
abbrev pub TookLine : LineEnd → ScriptView → ScriptView → List ℕ → Type 0
TookLine (Whole n) a b buf = Took a b (take n buf ++ 10 ∷ []) × Without 10 (take n buf) × (n ≤ 256)
TookLine Long a b buf = (part : List ℕ) × Took a b part × Without 10 part × (length part ≡ 257)
TookLine (Stopped why) a b buf = (part : List ℕ) × Took a b part × Without 10 part × (length part ≤ 256) × HasStopped why a b

-- a piece was taken into the front of buf
abbrev pub TookPiece : ScriptView → ScriptView → Result ℕ Stop → List ℕ → Type 0
TookPiece a b r buf = MatchResult r (λ n. Took a b (take n buf) × (0 < n) × (n ≤ length buf)) (λ _. Took a b [])
