-- What the entries tell of files by number, and the places and the locality of a file by the table of tapes and the buffer.
use Rattle.std.specs.Prelude.{ℕ, List, Bool, ◌==◌, not, filter, find}
use Rattle.std.specs.List.{filter_map, list_any, range_with_len}
use Rattle.blob.specs.declared.sum.Sum256.{Sum256}
use Rattle.cta_site.specs.declared.site.Site.{Site}
use Rattle.cta_site.specs.declared.site.TapeState.{TapeState}
use Rattle.cta_site.specs.Lookups.{copies_of}
use Rattle.cta_model.specs.declared.reports.Locality.{Locality}
use Rattle.cta_model.specs.declared.states.Place.{Place}
use Rattle.cta_model.specs.History.{History}
use Rattle.cta_model.specs.Files.{path_of, sum_of}
use Rattle.cta_model.specs.Tapes.{is_broken, is_disabled, may_be_read}
use Rattle.cta_model.specs.Queues.{or_else}
use Rattle.cta_model.specs.Batches.{fseq_by}
use Rattle.cta_model.specs.Localities.{locality_by}
use Rattle.part_model.specs.Held.{Held, is_held}
use Rattle.part_model.specs.Tapes.{Table, all_placed, place_in, row_in}

-- what the entries tell of files by number: the path, and the length and SHA-256
pub record Files : Type 0 where
  pub path : ℕ → List ℕ
  pub sum : ℕ → Sum256

-- what the entries of a history tell
abbrev pub files_of : History → Files
files_of h = record { path = path_of h; sum = sum_of h }

-- how many copies the class of a file has
abbrev pub copies_told : Site → Files → ℕ → ℕ
copies_told site files f = copies_of site (files.path f)

-- ---- places

-- the places of the copies of a file from 1 to n, on tapes that are not BROKEN, by copy
abbrev pub whole_places : Table → ℕ → ℕ → List Place
whole_places v f n = filter (λ (p : Place). not (is_broken (row_in v p.tape).state)) (filter_map (place_in v f) (range_with_len 1 n))

-- the sources of a file of n copies: those of its places on tapes that may be read, or all where there is none of these
abbrev pub sources_told : Table → ℕ → ℕ → List Place
sources_told v f n = or_else (filter (λ (p : Place). may_be_read (row_in v p.tape).state) (whole_places v f n)) (whole_places v f n)

-- the fSeq of the source of a file of n copies on a tape, 0 where it has none there
abbrev pub fseq_told : Table → ℕ → ℕ → ℕ → ℕ
fseq_told v tape f n = fseq_by (find (λ (p : Place). p.tape == tape) (sources_told v f n))

-- ---- locality

-- whether a place of the file is on a tape whose state passes the test
abbrev pub has_place_told : (TapeState → Bool) → Table → ℕ → ℕ → Bool
has_place_told test v f n = list_any (λ (p : Place). test (row_in v p.tape).state) (whole_places v f n)

-- the locality of a live file of n copies
abbrev pub locality_told : Table → Held → ℕ → ℕ → Locality
locality_told v b f n = locality_by (all_placed v f n) (has_place_told may_be_read v f n) (is_held b f) (has_place_told is_disabled v f n)
