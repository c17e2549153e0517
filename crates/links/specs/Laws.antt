-- Laws of links and of runs.
use Rattle.std.specs.Prelude.{◌≡◌, ◌≢◌, ◌↔◌, ℕ, ◌⊎◌, List, [], ◌∷◌, ◌++◌}
use Rattle.conn.specs.Cut.{Cut, IsLinkCut}
use Rattle.conn.specs.Unique.{MayWait}
use Rattle.links.specs.Standing.{behind, StandFor}
use Rattle.links.specs.Run.{Feed, Turn, on, bytes_on, IsRun, IsRunBehind, IsRunOf, join}
use Rattle.links.specs.declared.links.Links.{Links}

-- feeding two links in one order or the other is the same, for each link
abbrev pub HasFreeOrder : Type 0
HasFreeOrder =
    (fed : ℕ → List ℕ) (a b : ℕ) (xs ys : List ℕ) → a ≢ b → (link : ℕ) → behind (behind fed a xs) b ys link ≡ behind (behind fed b ys) a xs link

-- a list of turns is a run exactly where those of each link, without the others, are one
abbrev pub IsEachAlone : Type 0
IsEachAlone = (limit : ℕ) (turns : List Turn) → IsRun limit turns ↔ ((link : ℕ) → IsRun limit (on link turns))

-- in the bytes that a link was given up to some turn stands one of the two exceptions of the wire: there a cut may wait where another refuses
pub record MayDiffer (limit : ℕ) (turns : List Turn) : Type 0 where
  pub before : List Turn
  pub turn : Turn
  pub later : List Turn
  pub parts : turns ≡ before ++ turn ∷ later
  pub cut : Cut
  pub is_cut : IsLinkCut limit (bytes_on turn.link before ++ turn.bytes) cut
  pub waits : MayWait cut.tail

-- feeds have one run, but for the two exceptions of the wire
abbrev pub HasOneRun : Type 0
HasOneRun = (limit : ℕ) (feeds : List Feed) (a b : List Turn) → IsRunOf limit feeds a → IsRunOf limit feeds b → (a ≡ b) ⊎ MayDiffer limit a

-- a record whose bytes came in two pieces, with the events of each, is that record with all its bytes and events; so is one of any number of pieces
abbrev pub HasFreePieces : Type 0
HasFreePieces =
    (limit : ℕ) (front : List Turn) (a b : Turn) (back : List Turn) → a.link ≡ b.link → IsRun limit (front ++ a ∷ b ∷ back) → IsRun limit (front ++ join a b ∷ back)

-- a run is one of its first turns, and one of the others behind these
abbrev pub RunsFollow : Type 0
RunsFollow =
    (limit : ℕ) (before first more : List Turn)
    → IsRunBehind limit before (first ++ more) ↔ (IsRunBehind limit before first × IsRunBehind limit (before ++ first) more)

-- a record of which no byte has come yet is a turn that completes nothing
abbrev pub BeginsEmpty : Type 0
BeginsEmpty =
    (links : Links) (limit : ℕ) (turns : List Turn) (link moment : ℕ) → StandFor links limit turns
    → StandFor links limit (turns ++ record { link = link; moment = moment; bytes = []; events = [] } ∷ [])
