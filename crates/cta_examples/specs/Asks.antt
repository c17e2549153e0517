-- Asks to try the definitions on, beside those of cta_model, and what the asks of a history were answered.
use Rattle.std.specs.Prelude.{ℕ, List, [], ◌∷◌, Option, None, option_map, codes}
use Rattle.cta_site.specs.Listed.{rows}
use Rattle.cta_site.specs.declared.site.TapeState.{TapeState}
use Rattle.cta_model.specs.declared.entries.Entry.{Entry}
use Rattle.cta_model.specs.declared.answers.Answer.{Answer}
use Rattle.cta_model.specs.declared.asks.Ask.{Ask}
use Rattle.cta_model.specs.declared.asks.Ask.TheVariants as ask
use Rattle.cta_model.specs.declared.asks.Fault.{Fault}
use Rattle.cta_model.specs.declared.asks.Job.{Job}
use Rattle.cta_model.specs.History.{History, entry_of}
use Rattle.cta_model.specs.Examples.{somebody}

-- what the ask of the entry of this number was answered
abbrev pub answer_at : History → ℕ → Option Answer
answer_at h n = option_map (λ (e : Entry). e.answer) (entry_of h n)

-- a session of drive 0 at this moment in which a device call fails and charges the jobs; m is the number of its Next
abbrev pub failing_session : ℕ → ℕ → Fault → List Job → List (ℕ × Ask)
failing_session at m fault jobs = (at, ask.Next 0) ∷ (at, ask.Claim m) ∷ (at, ask.Failed m fault (rows jobs) (rows [])) ∷ (at, ask.End m None) ∷ []

-- the tape gets this state, at the moment 100
abbrev pub set_state : ℕ → TapeState → ℕ × Ask
set_state v s = (100, ask.TapeState somebody v s)

-- a Retry of /atlas/a, at the moment 100
abbrev pub retry_a : ℕ × Ask
retry_a = (100, ask.Retry somebody (rows (codes "/atlas/a" ∷ [])))

-- a Repack of the first tape, at the moment 100
abbrev pub repack_first : ℕ × Ask
repack_first = (100, ask.Repack somebody 0)

-- a Reclaim of the first tape, at the moment 100
abbrev pub reclaim_first : ℕ × Ask
reclaim_first = (100, ask.Reclaim somebody 0)
