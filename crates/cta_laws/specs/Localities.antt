-- Laws of localities.
use Rattle.std.specs.Prelude.{ℕ, ◌≡◌, ◌≤◌, List, [], ◌∷◌, ◌⊎◌, Some, true}
use Rattle.std.specs.List.{list_any, AllByRecursion}
use Rattle.cta_site.specs.declared.site.Site.{Site}
use Rattle.cta_site.specs.Listed.{Listed, rows}
use Rattle.cta_model.specs.declared.asks.Look.TheVariants as look
use Rattle.cta_model.specs.declared.answers.Answer.TheVariants as answer
use Rattle.cta_model.specs.declared.reports.Locality.{Locality}
use Rattle.cta_model.specs.declared.reports.Locality.TheVariants as locality
use Rattle.cta_model.specs.declared.reports.PlaceInfo.{PlaceInfo}
use Rattle.cta_model.specs.History.{History}
use Rattle.cta_model.specs.Files.{live_file, is_live, copies_of_file}
use Rattle.cta_model.specs.Buffer.{is_resident}
use Rattle.cta_model.specs.Places.{flushed_in, is_copy_of}
use Rattle.cta_model.specs.Localities.{locality_of}
use Rattle.cta_model.specs.Looks.{look_answer_of}
use Rattle.cta_model.specs.Legal.{IsLegal}

-- some entry flushed this copy of the file with fate Done
abbrev pub WasFlushed : History → ℕ → ℕ → Type 0
WasFlushed [] f c = ⊥
WasFlushed (e ∷ h) f c = (list_any (is_copy_of f c) (flushed_in e.ask e.answer) ≡ true) ⊎ WasFlushed h f c

-- each copy of the file's class was flushed
abbrev pub EachCopyWasFlushed : Site → History → ℕ → Type 0
EachCopyWasFlushed site h f = (c : ℕ) → 1 ≤ c → c ≤ copies_of_file site h f → WasFlushed h f c

-- a locality says that the file is on tape
abbrev pub SaysTape : Locality → Type 0
SaysTape l = (l ≡ locality.DiskAndTape) ⊎ (l ≡ locality.Tape)

-- whatever has happened, a file's locality says tape only where each copy of its class was flushed
abbrev pub TapeIsFlushed : Type 0
TapeIsFlushed = (site : Site) (h : History) (f : ℕ) → SaysTape (locality_of site h f) → EachCopyWasFlushed site h f

-- where this is told of a path, it names a file of which each copy of its class was flushed, if it is said to be on tape
abbrev pub IsTrueOfTape : Site → History → PlaceInfo → Type 0
IsTrueOfTape site h info =
    (l : Locality) → info.locality ≡ Some l → SaysTape l → (f : ℕ) × (live_file h info.path ≡ Some f) × EachCopyWasFlushed site h f

-- whatever has happened, each line of an ArchiveInfo says tape only where each copy of the file's class was flushed
abbrev pub ToldTapeIsFlushed : Type 0
ToldTapeIsFlushed =
    (site : Site) (h : History) (t : ℕ) (paths : Listed (List ℕ)) (infos : List PlaceInfo)
    → look_answer_of site h t (look.ArchiveInfo paths) ≡ answer.Places (rows infos)
    → AllByRecursion (IsTrueOfTape site h) infos

-- in a legal history each live file is resident, or each copy of its class was flushed once
abbrev pub ResidentOrFlushed : Type 0
ResidentOrFlushed = (site : Site) (h : History) → IsLegal site h → (f : ℕ) → is_live h f ≡ true → (is_resident h f ≡ true) ⊎ EachCopyWasFlushed site h f
