-- The live copies on a tape: those that have their place there.
use Rattle.std.specs.Prelude.{ℕ, ◌≡◌, ◌+◌, ◌<◌, ◌≤◌, ◌⊎◌, List, [], ◌∷◌, Option, Some, None}
use Rattle.std.specs.List.{AllByRecursion}
use Rattle.part_model.specs.declared.space.Placed.{Placed}
use Rattle.part_model.specs.Tapes.{place_among}

-- a copy whose place is on the tape, at the fSeq or behind it
pub record IsLiveFrom (places : List Placed) (tape fseq : ℕ) (p : Placed) : Type 0 where
  pub placed : place_among places p.file p.copy ≡ Some p.place
  pub there : p.place.tape ≡ tape
  pub behind : fseq ≤ p.place.fseq

-- the next live copy on the tape at the fSeq or behind it: none where there is none, and else the one of the least fSeq, which no other has
abbrev pub IsNextLive : List Placed → ℕ → ℕ → Option Placed → Type 0
IsNextLive places tape fseq None = (q : Placed) → IsLiveFrom places tape fseq q → ⊥
IsNextLive places tape fseq (Some p) = IsLiveFrom places tape fseq p × ((q : Placed) → IsLiveFrom places tape fseq q → (q ≡ p) ⊎ (p.place.fseq < q.place.fseq))

-- a walk along a tape: the next live copy, the next one behind it, and so on until there is none
unfoldable pub IsWalk : List Placed → ℕ → ℕ → List Placed → Type 0
IsWalk places tape fseq [] = IsNextLive places tape fseq None
IsWalk places tape fseq (p ∷ walk) = IsNextLive places tape fseq (Some p) × IsWalk places tape (p.place.fseq + 1) walk

-- the copies are at this fSeq or behind it, each behind the one before
unfoldable pub AreRising : ℕ → List Placed → Type 0
AreRising fseq [] = Unit {0}
AreRising fseq (p ∷ ps) = (fseq ≤ p.place.fseq) × AreRising (p.place.fseq + 1) ps

-- one of these
unfoldable pub IsAmong : Placed → List Placed → Type 0
IsAmong q [] = ⊥
IsAmong q (p ∷ ps) = (q ≡ p) ⊎ IsAmong q ps

-- all live copies on the tape from the fSeq on and no others, each once, in order of fSeq
pub record AreAllLive (places : List Placed) (tape fseq : ℕ) (walk : List Placed) : Type 0 where
  pub only : AllByRecursion (IsLiveFrom places tape fseq) walk
  pub all : (q : Placed) → IsLiveFrom places tape fseq q → IsAmong q walk
  pub rising : AreRising fseq walk

-- a walk passes all live copies of its tape
abbrev pub WalksPassAll : Type 0
WalksPassAll = (places : List Placed) (tape fseq : ℕ) (walk : List Placed) → IsWalk places tape fseq walk → AreAllLive places tape fseq walk
