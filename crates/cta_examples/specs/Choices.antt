-- Runs in which a free drive finds more than one queue, or none that is warranted.
use Rattle.std.specs.Prelude.{[], ◌∷◌, ◌++◌, codes}
use Rattle.cta_model.specs.declared.asks.Ask.TheVariants as ask
use Rattle.cta_model.specs.History.{History}
use Rattle.cta_model.specs.Kept.{history_of}
use Rattle.cta_model.specs.Examples.{somebody, fast, put_by, put_of, put_a, put_b, stage_a, first_item, archive_one, a_to_tape_alone}
use Rattle.cta_examples.specs.Sites.{small_buffer_site, two_drive_site, two_writer_site, two_file_site, fast_requester_site}

-- a file waits to be written to the tape from which another waits to be read, both of priority 1
abbrev pub write_and_read : History
write_and_read = history_of small_buffer_site [] (a_to_tape_alone ++ (put_of (codes "/atlas/c") 5 ∷ stage_a 200 ∷ []))

-- both copies of a file wait for a drive, and the first drive has mounted the first copy's tape
abbrev pub first_copy_mounted : History
first_copy_mounted = history_of two_drive_site [] (put_a ∷ (100, ask.Next 0) ∷ [])

-- the first copy is on tape, and its mount is over
abbrev pub first_copy_done : History
first_copy_done = history_of two_drive_site [] (put_a ∷ archive_one 2 (first_item 1 1 5 1))

-- a file alone waits to be written
abbrev pub file_alone : History
file_alone = history_of two_file_site [] (put_a ∷ [])

-- the same by the requester `fast`
abbrev pub file_of_fast : History
file_of_fast = history_of fast_requester_site [] (put_by fast (codes "/atlas/a") 5 ∷ [])

-- and by somebody else
abbrev pub file_of_somebody : History
file_of_somebody = history_of fast_requester_site [] (put_by somebody (codes "/atlas/a") 5 ∷ [])

-- a file is claimed for writing, and another is put
abbrev pub one_more_file : History
one_more_file = history_of two_writer_site [] (put_a ∷ (100, ask.Next 0) ∷ (100, ask.Claim 2) ∷ put_b ∷ [])

-- and a third
abbrev pub two_more_files : History
two_more_files = history_of two_writer_site one_more_file (put_of (codes "/atlas/c") 3 ∷ [])
