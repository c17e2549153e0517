-- What a drive mounts next, by the parts.
use Rattle.std.specs.Prelude.{ℕ, ◌+◌, ◌-◌, length, List, [], ◌++◌, Option, Some, None, is_some, Bool, if◌then◌else◌, ◌==◌, ◌&&◌, not, nat_le, nat_lt, find}
use Rattle.std.specs.List.{flat_map, range_with_len}
use Rattle.std.specs.Option.{option_or}
use Rattle.cta_site.specs.declared.site.Site.{Site}
use Rattle.cta_site.specs.Lookups.{capacity_of, is_in_reach, pool_of_tape}
use Rattle.cta_model.specs.declared.asks.Direction.{Direction}
use Rattle.cta_model.specs.declared.asks.Direction.TheVariants as direction
use Rattle.cta_model.specs.declared.answers.Answer.{Answer}
use Rattle.cta_model.specs.declared.answers.Answer.TheVariants as answer
use Rattle.cta_model.specs.declared.answers.Refusal.TheVariants as refusal
use Rattle.cta_model.specs.declared.states.Candidate.{Candidate}
use Rattle.cta_model.specs.declared.states.Sums.{Sums}
use Rattle.cta_model.specs.History.{has_number}
use Rattle.cta_model.specs.Tapes.{may_be_read, may_be_written}
use Rattle.cta_model.specs.Choice.{all_tapes, candidate_by, first_of, is_warranted_by, quota_of, vo_of_key}
use Rattle.cta_model.specs.Answers.{mounted, refuse}
use Rattle.part_model.specs.Counts.{count_in}
use Rattle.part_model.specs.Held.{bytes_of, evictable_in, free_in}
use Rattle.part_model.specs.Mounts.{count_of_key, has_drive, has_tape}
use Rattle.part_model.specs.Queues.{Lines, fits_in, line_sums, lines_in}
use Rattle.part_model.specs.Tapes.{row_in}
use Rattle.part_laws.specs.AllParts.{AllParts}

-- ---- queues

-- the lines of the queues in a direction
abbrev pub lines_told : AllParts → Direction → Lines
lines_told v direction.Archive = lines_in v.pools
lines_told v direction.Retrieve = lines_in v.recalls

-- the sums of the queue of a key, none where it is empty
abbrev pub sums_told : AllParts → Direction → ℕ → Option Sums
sums_told v way key = line_sums (lines_told v way key)

-- ---- what a drive may mount

-- the bytes of the buffer that are free or may be evicted at t
abbrev pub room_told : AllParts → ℕ → ℕ
room_told v t = free_in v.space.buffer + bytes_of (evictable_in v.space.buffer t)

-- whether a drive may write a pool's queue with these sums on a tape
abbrev pub may_write_told : Site → AllParts → ℕ → ℕ → Option Sums → ℕ → Bool
may_write_told site v d pool sums tape =
    pool_of_tape site tape == pool
    && (may_be_written (row_in v.space.tapes tape).state
    && (is_in_reach site d tape
    && (not (has_tape tape v.mounts) && fits_in (capacity_of site tape - (row_in v.space.tapes tape).used) sums)))

-- whether a drive may read a tape's queue with these sums at t
abbrev pub may_read_told : Site → AllParts → ℕ → ℕ → Option Sums → ℕ → Bool
may_read_told site v t d sums tape =
    may_be_read (row_in v.space.tapes tape).state && (is_in_reach site d tape && (not (has_tape tape v.mounts) && fits_in (room_told v t) sums))

-- the first tape on which a pool's queue may be written: those in use first, then by VID
abbrev pub tape_of_pool_told : Site → AllParts → ℕ → ℕ → Option Sums → Option ℕ
tape_of_pool_told site v d pool sums =
    option_or (find (λ tape. nat_lt 0 (row_in v.space.tapes tape).used && may_write_told site v d pool sums tape) (all_tapes site))
    (find (may_write_told site v d pool sums) (all_tapes site))

-- the tape that a drive mounts for a queue
abbrev pub tape_for_told : Site → AllParts → ℕ → ℕ → Direction → ℕ → Option Sums → Option ℕ
tape_for_told site v t d direction.Archive key sums = tape_of_pool_told site v d key sums
tape_for_told site v t d direction.Retrieve key sums = if may_read_told site v t d sums key then Some key else None

-- whether a VO has fewer open mounts in the direction than its quota
abbrev pub quota_told : Site → AllParts → Direction → ℕ → Bool
quota_told site v way vo = nat_lt (count_in v.counts way vo) (quota_of site way vo)

-- whether a queue with these sums fits a drive at t
abbrev pub fits_told : Site → AllParts → ℕ → ℕ → Direction → ℕ → Option Sums → Bool
fits_told site v t d way key sums =
    not (has_number d v.downs)
    && (not (has_drive d v.mounts) && (quota_told site v way (vo_of_key site way key) && is_some (tape_for_told site v t d way key sums)))

-- ---- the choice

-- the candidate of a key whose queue has these sums
abbrev pub candidate_with : Site → AllParts → ℕ → ℕ → Direction → ℕ → Option Sums → List Candidate
candidate_with site v t d way key sums =
    if is_warranted_by site t way (count_of_key way key v.mounts) sums && fits_told site v t d way key sums
    then candidate_by way key sums (tape_for_told site v t d way key sums)
    else []

-- the candidate of a key
abbrev pub candidate_told : Site → AllParts → ℕ → ℕ → Direction → ℕ → List Candidate
candidate_told site v t d way key = candidate_with site v t d way key (sums_told v way key)

-- all candidates: the pools' queues, and then the tapes'
abbrev pub candidates_told : Site → AllParts → ℕ → ℕ → List Candidate
candidates_told site v t d =
    flat_map (candidate_told site v t d direction.Archive) (range_with_len 0 (length site.pools.items))
    ++ flat_map (candidate_told site v t d direction.Retrieve) (all_tapes site)

-- what a drive mounts next at t
abbrev pub choice_told : Site → AllParts → ℕ → ℕ → Option Candidate
choice_told site v t d = first_of (candidates_told site v t d)

-- what a Next is answered at t, where n is the number of the next entry
abbrev pub next_told : Site → AllParts → ℕ → ℕ → ℕ → Answer
next_told site v n t d =
    refuse refusal.NoDrive (nat_le (length site.drives.items) d)
    (if has_number d v.downs then answer.DriveDown
    else if has_drive d v.mounts then answer.DriveBusy
    else mounted n (choice_told site v t d))
