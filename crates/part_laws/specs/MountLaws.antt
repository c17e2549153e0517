-- How entries move the table of open mounts, the drives that are down, and the counts of open mounts.
use Rattle.std.specs.Prelude.{ℕ, ◌≡◌, List, [], ◌∷◌, Option, Some, false}
use Rattle.cta_site.specs.declared.site.Site.{Site}
use Rattle.cta_model.specs.declared.asks.Ask.TheVariants as ask
use Rattle.cta_model.specs.declared.asks.Direction.{Direction}
use Rattle.cta_model.specs.declared.asks.Fault.{Fault}
use Rattle.cta_model.specs.declared.answers.Answer.TheVariants as answer
use Rattle.cta_model.specs.declared.entries.Entry.{Entry}
use Rattle.cta_model.specs.declared.states.Mount.{Mount}
use Rattle.cta_model.specs.History.{History}
use Rattle.cta_model.specs.Legal.{IsLegal}
use Rattle.cta_model.specs.Mounts.{mount_of}
use Rattle.cta_laws.specs.Changes.{may_change_mounts}
use Rattle.part_model.specs.declared.mounts.OpenMount.{OpenMount}
use Rattle.part_model.specs.Counts.{ended_count, opened_count}
use Rattle.part_laws.specs.Counts.{AreCounts}
use Rattle.part_laws.specs.Mounts.{AreDown, AreOpenMounts, RowsTell, downs_after, rows_after}

-- rows that stand for the open mounts of a legal history, moved by its next entry, stand for those behind it
abbrev pub RowsMove : Type 0
RowsMove =
    (site : Site) (h : History) (e : Entry) (rows : List OpenMount) → IsLegal site (e ∷ h) → AreOpenMounts site h rows
    → AreOpenMounts site (e ∷ h) (rows_after site e.ask e.answer rows)

-- so it is for the drives that are down
abbrev pub DownsMove : Type 0
DownsMove =
    (site : Site) (h : History) (e : Entry) (rows : List OpenMount) (downs : List ℕ) → IsLegal site (e ∷ h) → AreOpenMounts site h rows → AreDown h downs
    → AreDown (e ∷ h) (downs_after e.ask rows downs)

-- an empty history has no open mount, and no drive that is down
abbrev pub MountsStartEmpty : Type 0
MountsStartEmpty = (site : Site) → AreOpenMounts site [] [] × AreDown [] []

-- rows that stand for the open mounts of a history tell of them
abbrev pub RowsTellMounts : Type 0
RowsTellMounts = (site : Site) (h : History) (rows : List OpenMount) → AreOpenMounts site h rows → RowsTell site h rows

-- a Next counts its mount for its direction and VO
abbrev pub NextIsCounted : Type 0
NextIsCounted =
    (site : Site) (h : History) (e : Entry) (d m : ℕ) (way : Direction) (v : ℕ) (counts : Direction → ℕ → ℕ) → e.ask ≡ ask.Next d → e.answer ≡ answer.Mounted m way v
    → AreCounts site h counts → AreCounts site (e ∷ h) (opened_count site (record { drive = d; direction = way; tape = v }) counts)

-- an End counts its mount no more
abbrev pub EndIsCounted : Type 0
EndIsCounted =
    (site : Site) (h : History) (e : Entry) (m : ℕ) (fault : Option Fault) (x : Mount) (counts : Direction → ℕ → ℕ) → IsLegal site (e ∷ h) → e.ask ≡ ask.End m fault → mount_of h m ≡ Some x
    → AreCounts site h counts → AreCounts site (e ∷ h) (ended_count site x counts)

-- every other ask leaves the counts
abbrev pub OthersLeaveCounts : Type 0
OthersLeaveCounts =
    (site : Site) (h : History) (e : Entry) (counts : Direction → ℕ → ℕ) → may_change_mounts e.ask ≡ false → AreCounts site h counts
    → AreCounts site (e ∷ h) counts
