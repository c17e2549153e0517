-- How the calls of a core move the index of paths and the table of tapes.
use Rattle.std.specs.Prelude.{ℕ, suc, ◌≡◌, ◌∷◌, Option, true}
use Rattle.cta_site.specs.declared.site.Site.{Site}
use Rattle.cta_model.specs.declared.entries.Entry.{Entry}
use Rattle.cta_model.specs.History.{History}
use Rattle.cta_model.specs.Files.{copies_of_file, is_live}
use Rattle.cta_model.specs.Jobs.{archive_birth}
use Rattle.cta_model.specs.Space.{is_safe}
use Rattle.cta_model.specs.Legal.{IsLegal}
use Rattle.part_model.specs.Names.{Names}
use Rattle.part_model.specs.Tapes.{Table, safe_in}
use Rattle.part_laws.specs.Names.{AreNames}
use Rattle.part_laws.specs.Tapes.{IsTable}
use Rattle.part_laws.specs.TableCalls.{NamesCalled, TableCalled}

-- an index of paths that stands for a history stands for it with one entry more once the calls for the entry are made
abbrev pub CallsMoveNames : Type 0
CallsMoveNames = (h : History) (e : Entry) (v v' : Names) → AreNames h v → NamesCalled h e.ask v v' → AreNames (e ∷ h) v'

-- a table that stands for a legal history stands for it with one entry more once the calls for the entry are made
abbrev pub CallsMoveTable : Type 0
CallsMoveTable =
    (site : Site) (h : History) (e : Entry) (v v' : Table) → IsLegal site (e ∷ h) → IsTable site h v → TableCalled h e e.ask e.answer v v' → IsTable site (e ∷ h) v'

-- in a legal history whether a live file is safe on tape is found in the table and a book of jobs
abbrev pub FlagIsFound : Type 0
FlagIsFound =
    (site : Site) (h : History) (v : Table) (jobs : ℕ → ℕ → Option ℕ) (f : ℕ) → IsLegal site h → IsTable site h v → is_live h f ≡ true → ((c : ℕ) → jobs f (suc c) ≡ archive_birth site h f (suc c))
    → is_safe site h f ≡ safe_in v jobs f (copies_of_file site h f)
