-- The items of files that were flushed, and the recalls of files that completed.
use Rattle.std.specs.Prelude.{ℕ, List, [], ◌∷◌, ◌++◌, Bool, false, ◌&&◌, filter}
use Rattle.cta_model.specs.declared.entries.Entry.{Entry}
use Rattle.cta_model.specs.declared.asks.Ask.{Ask}
use Rattle.cta_model.specs.declared.asks.Ask.TheVariants as ask
use Rattle.cta_model.specs.declared.asks.Item.{Item}
use Rattle.cta_model.specs.declared.asks.Fate.{Fate}
use Rattle.cta_model.specs.declared.asks.Fate.TheVariants as fate
use Rattle.cta_model.specs.declared.answers.Answer.{Answer}
use Rattle.cta_model.specs.declared.answers.Answer.TheVariants as answer
use Rattle.cta_model.specs.History.{History, has_number}
use Rattle.cta_model.specs.Places.{flushed_in, is_done}

-- whether a flushed item is one of these files, and its fate is Done
abbrev pub is_done_of : List ℕ → Item × Fate → Bool
is_done_of files x = is_done x.1 && has_number x.0.job.file files

-- the flushed items of these files whose fate is Done, those of the newest Flushed first
abbrev pub done_items : List ℕ → History → List (Item × Fate)
done_items files [] = []
done_items files (e ∷ h) = filter (is_done_of files) (flushed_in e.ask e.answer) ++ done_items files h

-- whether an entry completes a recall of one of these files
abbrev pub completes : List ℕ → Ask → Answer → Bool
completes files (ask.Recalled m job) (answer.Arrived fate.Done) = has_number job.file files
completes files _ _ = false

-- the entries that complete a recall of one of these files
abbrev pub completed_recalls : List ℕ → History → History
completed_recalls files h = filter (λ (e : Entry). completes files e.ask e.answer) h
