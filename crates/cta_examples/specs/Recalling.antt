-- Runs that recall files from tape.
use Rattle.std.specs.Prelude.{ℕ, List, [], ◌∷◌, ◌++◌, None, codes}
use Rattle.cta_site.specs.Listed.{rows}
use Rattle.cta_model.specs.declared.asks.Ask.{Ask}
use Rattle.cta_model.specs.declared.asks.Ask.TheVariants as ask
use Rattle.cta_model.specs.declared.asks.Item.{Item}
use Rattle.cta_model.specs.History.{History}
use Rattle.cta_model.specs.Recalls.{recall_job}
use Rattle.cta_model.specs.Kept.{history_of}
use Rattle.cta_model.specs.Examples.{somebody, wanted, put_of, put_a, put_b, stage_a, cancel_a, first_item, item_of, archive_one, recall_one, a_to_tape_alone}
use Rattle.cta_examples.specs.Sites.{small_buffer_site}

-- /atlas/a is written to tape and evicted by /atlas/b, which is written too; then a is staged, and its recall evicts b
abbrev pub recalled : History
recalled = history_of small_buffer_site []
    (put_a ∷ (archive_one 2 (first_item 1 1 5 1) ++ (put_b ∷ (archive_one 7 (first_item 6 1 8 2) ++ (stage_a 200 ∷ recall_one 200 12 (recall_job 11 1))))))

-- two requests want the same file; the first is cancelled before the recall
abbrev pub one_recall_for_two : History
one_recall_for_two = history_of small_buffer_site [] (a_to_tape_alone ++ (stage_a 200 ∷ stage_a 200 ∷ cancel_a 200 8 ∷ recall_one 200 11 (recall_job 8 1)))

-- a Put of one byte
abbrev pub put_byte : List ℕ → ℕ × Ask
put_byte path = put_of path 1

-- the items of three files of one byte
abbrev pub three_items : List Item
three_items = first_item 1 1 1 1 ∷ first_item 2 1 1 2 ∷ first_item 3 1 1 3 ∷ []

-- the items of their recalls, which entry 13 bears
abbrev pub three_recalls : List Item
three_recalls = item_of (recall_job 13 1) 1 1 ∷ item_of (recall_job 13 2) 1 2 ∷ item_of (recall_job 13 3) 1 3 ∷ []

-- three files are written in one session, evicted together by a fourth, and staged by one request, which names one of them twice
abbrev pub three_staged : History
three_staged = history_of small_buffer_site [] (put_byte (codes "/atlas/f1") ∷ put_byte (codes "/atlas/f2") ∷ put_byte (codes "/atlas/f3")
    ∷ (100, ask.Next 0) ∷ (100, ask.Claim 4) ∷ (100, ask.Flushed 4 (rows three_items)) ∷ (100, ask.End 4 None)
    ∷ put_of (codes "/atlas/x") 10 ∷ (archive_one 9 (first_item 8 1 10 4)
    ++ ((200, ask.Stage somebody (rows (wanted (codes "/atlas/f1") ∷ wanted (codes "/atlas/f2") ∷ wanted (codes "/atlas/f1") ∷ wanted (codes "/atlas/f3") ∷ []))) ∷ [])))

-- one session reads all three
abbrev pub three_recalled : History
three_recalled = history_of small_buffer_site three_staged ((200, ask.Next 0) ∷ (200, ask.Claim 14) ∷ (201, ask.Recalled 14 (recall_job 13 1))
    ∷ (202, ask.Recalled 14 (recall_job 13 2)) ∷ (203, ask.Recalled 14 (recall_job 13 3)) ∷ (203, ask.End 14 None) ∷ [])

-- a Stage of a file on tape and of a path that names none
abbrev pub one_path_unknown : History
one_path_unknown = history_of small_buffer_site [] (a_to_tape_alone ++ ((200, ask.Stage somebody (rows (wanted (codes "/atlas/a") ∷ wanted (codes "/x") ∷ []))) ∷ []))

-- the file is deleted before it is read
abbrev pub deleted_before_recall : History
deleted_before_recall = history_of small_buffer_site one_path_unknown ((210, ask.Delete somebody (codes "/atlas/a")) ∷ [])
