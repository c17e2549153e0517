-- Runs in which devices fail.
use Rattle.std.specs.Prelude.{ℕ, List, [], ◌∷◌, ◌++◌, Some, None, codes}
use Rattle.cta_site.specs.Listed.{rows}
use Rattle.cta_model.specs.declared.asks.Ask.{Ask}
use Rattle.cta_model.specs.declared.asks.Ask.TheVariants as ask
use Rattle.cta_model.specs.declared.asks.Fault.{Fault}
use Rattle.cta_model.specs.declared.asks.Fault.TheVariants as fault
use Rattle.cta_model.specs.History.{History}
use Rattle.cta_model.specs.Recalls.{recall_job}
use Rattle.cta_model.specs.Mounts.{job_of}
use Rattle.cta_model.specs.Kept.{history_of}
use Rattle.cta_model.specs.Examples.{one_copy_site, somebody, sum_of_size, put_a, put_b, delete_of, stage_a, first_job, first_item, item_of, archive_one, a_to_tape_alone}
use Rattle.cta_examples.specs.Sites.{small_buffer_site, small_two_copy_site, one_try_site}
use Rattle.cta_examples.specs.Asks.{failing_session, retry_a}
use Rattle.cta_examples.specs.Recalling.{put_byte}

-- three files are put, the flush of their batch fails, and the next mount claims them again
abbrev pub flush_failed : History
flush_failed = history_of one_copy_site [] (put_byte (codes "/atlas/a") ∷ put_byte (codes "/atlas/b") ∷ put_byte (codes "/atlas/c")
    ∷ (failing_session 100 4 fault.Flush (first_job 1 ∷ first_job 2 ∷ first_job 3 ∷ []) ++ ((100, ask.Next 0) ∷ (100, ask.Claim 8) ∷ [])))

-- three files are put, and the write of the first fails, for which the other two go back
abbrev pub write_failed : History
write_failed = history_of one_copy_site [] (put_byte (codes "/atlas/a") ∷ put_byte (codes "/atlas/b") ∷ put_byte (codes "/atlas/c")
    ∷ (100, ask.Next 0) ∷ (100, ask.Claim 4) ∷ (100, ask.Failed 4 fault.Write (rows (first_job 1 ∷ [])) (rows (first_job 2 ∷ first_job 3 ∷ []))) ∷ [])

-- a file with copies on two tapes is evicted and staged, as entry 12
abbrev pub staged_from_two : List (ℕ × Ask)
staged_from_two = put_a ∷ (archive_one 2 (first_item 1 1 5 1) ++ (archive_one 6 (first_item 1 2 5 1) ++ (put_b ∷ delete_of (codes "/atlas/b") ∷ stage_a 100 ∷ [])))

-- a session in which the read of its recall fails
abbrev pub read_fails : ℕ → List (ℕ × Ask)
read_fails m = failing_session 100 m fault.Read (recall_job 12 1 ∷ [])

-- all three tries of its recall fail
abbrev pub reads_failed : History
reads_failed = history_of small_two_copy_site [] (staged_from_two ++ (read_fails 13 ++ (read_fails 17 ++ read_fails 21)))

-- what is read has the length of the file and another digest
abbrev pub altered : Fault
altered = fault.Mismatch (record { len = 5; digest = 1 ∷ [] }) (sum_of_size 5)

-- the first read of a recall is altered, and the session reads once more
abbrev pub read_again : History
read_again = history_of small_buffer_site [] (a_to_tape_alone
    ++ (stage_a 200 ∷ (200, ask.Next 0) ∷ (200, ask.Claim 9) ∷ (200, ask.Failed 9 altered (rows (recall_job 8 1 ∷ [])) (rows []))
    ∷ (200, ask.Claim 9) ∷ (200, ask.Recalled 9 (recall_job 8 1)) ∷ (200, ask.End 9 None) ∷ []))

-- the only try of a file's archive job fails
abbrev pub failed_once : History
failed_once = history_of one_try_site [] (put_a ∷ failing_session 100 2 fault.Write (first_job 1 ∷ []))

-- it is tried again by a Retry, as entry 6
abbrev pub retried : History
retried = history_of one_try_site failed_once (retry_a ∷ [])

-- and written to tape
abbrev pub retried_on_tape : History
retried_on_tape = history_of one_try_site retried (archive_one 7 (item_of (job_of 6 1 1) 5 1))

-- or it fails again, at the flush
abbrev pub failed_twice : History
failed_twice = history_of one_try_site retried (failing_session 100 7 fault.Flush (job_of 6 1 1 ∷ []))

-- a mount ends at once, since its load failed
abbrev pub load_failed : History
load_failed = history_of one_copy_site [] (put_a ∷ (100, ask.Next 0) ∷ (100, ask.End 2 (Some fault.Load)) ∷ [])

-- the drive is brought up again, and writes
abbrev pub up_again : History
up_again = history_of one_copy_site load_failed ((100, ask.DriveUp somebody 0) ∷ archive_one 5 (first_item 1 1 5 1))

-- a drive is put down by its operator
abbrev pub put_down : History
put_down = history_of one_copy_site [] (put_a ∷ (100, ask.DriveDown somebody 0) ∷ [])
