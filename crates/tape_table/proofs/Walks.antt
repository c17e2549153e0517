-- A walk along a tape.
use Rattle.std.proofs.Common.{◌+◌, ◌<◌, ◌≤◌, inl, inr, ℕ, List, [], ◌∷◌, arith}
use Rattle.std.specs.List.{AllByRecursion}
use Rattle.part_model.specs.declared.space.Placed.{Placed}
use Rattle.tape_table.specs.Live.{IsLiveFrom, IsWalk, AreRising, IsAmong, WalksPassAll}

-- behind the next fSeq is behind this one
earlier : (ps : List Placed) (tape m n : ℕ) → n ≤ m → (q : Placed) → IsLiveFrom ps tape (m + 1) q → IsLiveFrom ps tape n q
earlier ps tape m n least q l = record { placed = l.placed; there = l.there; behind = (let h : m + 1 ≤ q.place.fseq = l.behind in omega arith) }

all_earlier : (ps : List Placed) (tape m n : ℕ) → n ≤ m → (walk : List Placed) → AllByRecursion (IsLiveFrom ps tape (m + 1)) walk → AllByRecursion (IsLiveFrom ps tape n) walk
all_earlier ps tape m n least [] all = tt
all_earlier ps tape m n least (q ∷ walk) all = (earlier ps tape m n least q all.0, all_earlier ps tape m n least walk all.1)

only : (ps : List Placed) (tape fseq : ℕ) (walk : List Placed) → IsWalk ps tape fseq walk → AllByRecursion (IsLiveFrom ps tape fseq) walk
unfolding IsWalk
only ps tape fseq [] w = tt
only ps tape fseq (p ∷ walk) w = (w.0.0, all_earlier ps tape p.place.fseq fseq w.0.0.behind walk (only ps tape (p.place.fseq + 1) walk w.1))

later : (ps : List Placed) (tape fseq : ℕ) (p q : Placed) → IsLiveFrom ps tape fseq q → p.place.fseq < q.place.fseq → IsLiveFrom ps tape (p.place.fseq + 1) q
later ps tape fseq p q l less = record { placed = l.placed; there = l.there; behind = omega arith }

passed : (ps : List Placed) (tape fseq : ℕ) (walk : List Placed) → IsWalk ps tape fseq walk → (q : Placed) → IsLiveFrom ps tape fseq q → IsAmong q walk
unfolding IsWalk IsAmong
passed ps tape fseq [] w q l = w q l
passed ps tape fseq (p ∷ walk) w q l = elim (w.0.1 q l) [ inl same ↦ inl same | inr less ↦ inr (passed ps tape (p.place.fseq + 1) walk w.1 q (later ps tape fseq p q l less)) ]

rising : (ps : List Placed) (tape fseq : ℕ) (walk : List Placed) → IsWalk ps tape fseq walk → AreRising fseq walk
unfolding IsWalk AreRising
rising ps tape fseq [] w = tt
rising ps tape fseq (p ∷ walk) w = (w.0.0.behind, rising ps tape (p.place.fseq + 1) walk w.1)

pub walks_pass : WalksPassAll
walks_pass ps tape fseq walk w = record { only = only ps tape fseq walk w; all = passed ps tape fseq walk w; rising = rising ps tape fseq walk w }
