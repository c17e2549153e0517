-- Runs that write files to tape.
use Rattle.std.specs.Prelude.{[], ◌∷◌, codes}
use Rattle.cta_site.specs.Listed.{rows}
use Rattle.cta_model.specs.declared.asks.Ask.TheVariants as ask
use Rattle.cta_model.specs.History.{History}
use Rattle.cta_model.specs.Kept.{history_of}
use Rattle.cta_model.specs.Examples.{one_copy_site, put_a, put_b, put_of, delete_of, first_item}
use Rattle.cta_examples.specs.Sites.{small_tape_site}

-- a file is deleted while it is claimed for writing, and its path is put again
abbrev pub deleted_while_claimed : History
deleted_while_claimed = history_of one_copy_site [] (put_a ∷ (100, ask.Next 0) ∷ (100, ask.Claim 2) ∷ delete_of (codes "/atlas/a") ∷ put_a ∷ [])

-- the mount then flushes the deleted file, and after it the new one
abbrev pub stale_and_done : History
stale_and_done = history_of one_copy_site deleted_while_claimed
    ((100, ask.Flushed 2 (rows (first_item 1 1 5 1 ∷ []))) ∷ (100, ask.Claim 2) ∷ (100, ask.Flushed 2 (rows (first_item 5 1 5 2 ∷ []))) ∷ [])

-- files of 5, 8 and 3 bytes wait for a tape with room for 10, and it is mounted
abbrev pub little_room : History
little_room = history_of small_tape_site [] (put_a ∷ put_b ∷ put_of (codes "/atlas/c") 3 ∷ (100, ask.Next 0) ∷ [])
