-- The recalls of files, and the files that have no place left once a tape has another state.
use Rattle.std.specs.Prelude.{ℕ, List, Option, Some, None, option_map, Bool, false, if◌then◌else◌, ◌==◌, ◌||◌, not}
use Rattle.std.specs.List.{filter_map}
use Rattle.cta_site.specs.declared.site.TapeState.{TapeState}
use Rattle.cta_model.specs.declared.asks.Job.{Job}
use Rattle.cta_model.specs.declared.states.Place.{Place}
use Rattle.cta_model.specs.Recalls.{Recall, recall_job}
use Rattle.cta_model.specs.Tapes.{is_broken}
use Rattle.part_model.specs.JobBook.{Book}
use Rattle.part_model.specs.Tapes.{Table, place_in, row_in}

-- the live recall of a file, none where there is none
abbrev pub recall_in : Book → ℕ → Option Job
recall_in b f = option_map (λ (r : Recall). recall_job r.birth f) (b.recall f)

-- the live recalls of the files of these items
abbrev pub recalls_in : Book → List Job → List Job
recalls_in b items = filter_map (λ (j : Job). recall_in b j.file) items

-- the state of a tape, once this tape has this state
abbrev pub state_once : Table → ℕ → TapeState → ℕ → TapeState
state_once v tape s t = if t == tape then s else (row_in v t).state

-- whether there is a place, and it is on a tape that is not BROKEN, once this tape has this state
abbrev pub is_left_on : Table → ℕ → TapeState → Option Place → Bool
is_left_on v tape s None = false
is_left_on v tape s (Some p) = not (is_broken (state_once v tape s p.tape))

-- whether none of the copies from 1 to 4 of a file has such a place
abbrev pub is_lost_in : Table → ℕ → TapeState → ℕ → Bool
is_lost_in v tape s f =
    not (is_left_on v tape s (place_in v f 1) || (is_left_on v tape s (place_in v f 2) || (is_left_on v tape s (place_in v f 3) || is_left_on v tape s (place_in v f 4))))
