-- Runs with stage requests that pin, cancel, release and drop.
use Rattle.std.specs.Prelude.{[], ◌∷◌, ◌++◌, Some, codes}
use Rattle.cta_site.specs.Listed.{rows}
use Rattle.cta_model.specs.declared.asks.Ask.TheVariants as ask
use Rattle.cta_model.specs.History.{History}
use Rattle.cta_model.specs.Recalls.{recall_job}
use Rattle.cta_model.specs.Kept.{history_of}
use Rattle.cta_model.specs.Examples.{one_copy_site, somebody, wanted, put_of, put_a, stage_a, first_item, archive_one, archive_one_at, recall_one, a_to_tape_alone}
use Rattle.cta_examples.specs.Sites.{small_buffer_site}

-- a file in the buffer is staged at 100, though the caller says 90
abbrev pub staged_in_the_past : History
staged_in_the_past = history_of one_copy_site [] (put_a ∷ stage_a 90 ∷ [])

-- a request at 200 for a file on tape, one in the buffer, and a path that names none
abbrev pub one_to_wait_for : History
one_to_wait_for = history_of small_buffer_site [] (a_to_tape_alone ++ (put_of (codes "/atlas/c") 5
    ∷ (200, ask.Stage somebody (rows (wanted (codes "/atlas/a") ∷ wanted (codes "/atlas/c") ∷ wanted (codes "/x") ∷ []))) ∷ []))

-- the file in the buffer is written to tape, and at 205 the one on tape is read
abbrev pub waited_for : History
waited_for = history_of small_buffer_site one_to_wait_for (archive_one_at 200 10 (first_item 8 1 5 2) ++ recall_one 205 14 (recall_job 9 1))

-- a file that is on disk and tape is staged at 200 for 60 seconds
abbrev pub pinned : History
pinned = history_of small_buffer_site [] (put_a ∷ (archive_one 2 (first_item 1 1 5 1)
    ++ ((200, ask.Stage somebody (rows (record { path = codes "/atlas/a"; lifetime = Some 60 } ∷ []))) ∷ [])))

-- and released at 210
abbrev pub released : History
released = history_of small_buffer_site pinned ((210, ask.Release somebody 6 (rows (codes "/atlas/a" ∷ []))) ∷ [])

-- a request for a file on tape is dropped before its recall
abbrev pub dropped : History
dropped = history_of small_buffer_site [] (a_to_tape_alone ++ (stage_a 200 ∷ (200, ask.DropStage somebody 8) ∷ []))
