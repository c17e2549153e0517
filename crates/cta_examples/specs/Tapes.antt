-- Runs in which tapes change their states, are repacked and reclaimed.
use Rattle.std.specs.Prelude.{[], ◌∷◌, ◌++◌, codes}
use Rattle.cta_site.specs.declared.site.TapeState.TheVariants as state
use Rattle.cta_model.specs.declared.asks.Fault.TheVariants as fault
use Rattle.cta_model.specs.History.{History}
use Rattle.cta_model.specs.Mounts.{job_of}
use Rattle.cta_model.specs.Kept.{history_of}
use Rattle.cta_model.specs.Examples.{one_copy_site, two_tape_site, put_a, delete_of, stage_a, first_item, item_of, archive_one, a_to_tape_alone}
use Rattle.cta_examples.specs.Sites.{small_buffer_site, small_two_copy_site}
use Rattle.cta_examples.specs.Asks.{failing_session, set_state, repack_first, reclaim_first}
use Rattle.cta_examples.specs.Failures.{staged_from_two}

-- a file is written to a tape and stays on disk; then the tape is made REPACKING
abbrev pub to_be_repacked : History
to_be_repacked = history_of two_tape_site [] (put_a ∷ (archive_one 2 (first_item 1 1 5 1) ++ (set_state 0 state.Repacking ∷ [])))

-- the tape's repack, as entry 7
abbrev pub repacking : History
repacking = history_of two_tape_site to_be_repacked (repack_first ∷ [])

-- the first write of its item fails
abbrev pub repack_write_failed : History
repack_write_failed = history_of two_tape_site repacking (failing_session 100 8 fault.Write (job_of 7 1 1 ∷ []))

-- the second does not
abbrev pub repacked : History
repacked = history_of two_tape_site repack_write_failed (archive_one 12 (item_of (job_of 7 1 1) 5 1))

-- the old tape is reclaimed
abbrev pub reclaimed : History
reclaimed = history_of two_tape_site repacked (reclaim_first ∷ [])

-- a file is deleted while its item waits to be written
abbrev pub item_deleted : History
item_deleted = history_of two_tape_site repacking (delete_of (codes "/atlas/a") ∷ [])

-- a file on tape alone is to be repacked, and waits to be read
abbrev pub repack_waits : History
repack_waits = history_of small_buffer_site [] (a_to_tape_alone ++ (set_state 0 state.Repacking ∷ repack_first ∷ []))

-- its tape is lost meanwhile
abbrev pub repack_lost : History
repack_lost = history_of small_buffer_site repack_waits (set_state 0 state.Broken ∷ [])

-- a tape with no file is repacked
abbrev pub empty_repack : History
empty_repack = history_of one_copy_site [] (set_state 0 state.Repacking ∷ repack_first ∷ [])

-- the only tape of a file that waits for its recall is lost
abbrev pub tape_lost : History
tape_lost = history_of small_buffer_site [] (a_to_tape_alone ++ (stage_a 100 ∷ set_state 0 state.Broken ∷ []))

-- the only tape of a file is taken out of use
abbrev pub tape_disabled : History
tape_disabled = history_of small_buffer_site [] (a_to_tape_alone ++ (set_state 0 state.Disabled ∷ []))

-- and put to use again
abbrev pub tape_active_again : History
tape_active_again = history_of small_buffer_site tape_disabled (set_state 0 state.Active ∷ [])

-- a file with copies on two tapes waits for its recall
abbrev pub two_sources : History
two_sources = history_of small_two_copy_site [] staged_from_two

-- the first of the two tapes is taken out of use
abbrev pub one_source_left : History
one_source_left = history_of small_two_copy_site two_sources (set_state 0 state.Disabled ∷ [])
