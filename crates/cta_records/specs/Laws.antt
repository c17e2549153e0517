-- What bytes tell of what was kept.
use Rattle.std.specs.Prelude.{◌≡◌, ℕ, List, [], ◌∷◌, ◌++◌, map, Option, option_map}
use Rattle.std.specs.Arc.{arc_value}
use Rattle.std.specs.List.{AllByRecursion}
use Rattle.cta_model.specs.Bare.{bare_entry}
use Rattle.cta_model.specs.declared.entries.Entry.{Entry}
use Rattle.cta_records.specs.Records.{record_of, KeptFits}
use Rattle.cta_records.specs.declared.kept.Kept.{Kept}

-- what is kept, but for the room in its lists: the entry, and the bytes of the content if there is one
abbrev pub plain_kept : Kept → Entry × Option (List ℕ)
plain_kept kept = (bare_entry kept.entry, option_map arc_value kept.blob)

-- bytes begin with one record at most, and what follows it is determined
abbrev pub IsOneRecord : Type 0
IsOneRecord = (k j : Kept) (rest more : List ℕ) → KeptFits k → KeptFits j → record_of k ++ rest ≡ record_of j ++ more → (plain_kept k ≡ plain_kept j) × (rest ≡ more)

-- the records of what was kept, one behind the other
abbrev pub records_of : List Kept → List ℕ
records_of [] = []
records_of (k ∷ ks) = record_of k ++ records_of ks

-- two histories with the same bytes are the same, but for the room in their lists
abbrev pub AreToldApart : Type 0
AreToldApart = (ks js : List Kept) → AllByRecursion KeptFits ks → AllByRecursion KeptFits js → records_of ks ≡ records_of js → map plain_kept ks ≡ map plain_kept js
