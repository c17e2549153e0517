-- The sources of a file on a tape.
use Rattle.std.specs.Prelude.{ℕ, Option, Some, None, Bool, true, false, ◌==◌, ◌&&◌, not, find}
use Rattle.std.specs.List.{range_with_len}
use Rattle.cta_model.specs.declared.states.Place.{Place}
use Rattle.cta_model.specs.Batches.{fseq_by}
use Rattle.cta_model.specs.Tapes.{is_broken, may_be_read}
use Rattle.part_model.specs.Tapes.{Table, place_in, row_in}

-- whether a place counts where only tapes that may be read do, or all
abbrev pub counts : Bool → Table → Place → Bool
counts true v p = may_be_read (row_in v p.tape).state
counts false v p = true

-- whether a place is on a tape that is not BROKEN, and counts
abbrev pub is_source : Bool → Table → Place → Bool
is_source readable v p = not (is_broken (row_in v p.tape).state) && counts readable v p

-- whether there is a place, and it is a source
abbrev pub has_source : Bool → Table → Option Place → Bool
has_source readable v None = false
has_source readable v (Some p) = is_source readable v p

-- whether there is a place, and it is a source on this tape
abbrev pub has_source_on : Bool → Table → ℕ → Option Place → Bool
has_source_on readable v tape None = false
has_source_on readable v tape (Some p) = is_source readable v p && p.tape == tape

-- the first of the copies from 1 to n of a file that has a source on the tape, none where none has
abbrev pub copy_on : Bool → Table → ℕ → ℕ → ℕ → Option ℕ
copy_on readable v tape f n = find (λ c. has_source_on readable v tape (place_in v f c)) (range_with_len 1 n)

-- the fSeq of a copy, 0 where there is no copy or it has no place
abbrev pub fseq_of_copy : Table → ℕ → Option ℕ → ℕ
fseq_of_copy v f None = 0
fseq_of_copy v f (Some c) = fseq_by (place_in v f c)
