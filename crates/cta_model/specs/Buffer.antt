-- Which files are in the buffer, and since which entry.
use Rattle.std.specs.Prelude.{ℕ, List, [], ◌∷◌, Option, Some, None, is_some, Bool, true, false, if◌then◌else◌, ◌==◌}
use Rattle.cta_model.specs.declared.asks.Ask.{Ask}
use Rattle.cta_model.specs.declared.asks.Ask.TheVariants as ask
use Rattle.cta_model.specs.declared.answers.Answer.{Answer}
use Rattle.cta_model.specs.declared.answers.Answer.TheVariants as answer
use Rattle.cta_model.specs.declared.asks.Fate.TheVariants as fate
use Rattle.cta_model.specs.History.{History, next_number, has_number}
use Rattle.cta_model.specs.Files.{is_live}

-- whether the entry of this number brings the file into the buffer: its Put, or a completed recall of it
abbrev pub brings_in : Ask → Answer → ℕ → ℕ → Bool
brings_in (ask.Put who path sum) a n f = n == f
brings_in (ask.Recalled m job) (answer.Arrived fate.Done) n f = job.file == f
brings_in _ _ n f = false

-- the files that an entry evicts: those that the answer to its Put or its Claim lists
abbrev pub evicted_in : Ask → Answer → List ℕ
evicted_in (ask.Put who path sum) (answer.Stored evicted) = evicted.items
evicted_in (ask.Claim m) (answer.Batch items evicted) = evicted.items
evicted_in _ _ = []

-- whether an entry evicts the file
abbrev pub evicts : Ask → Answer → ℕ → Bool
evicts k a f = has_number f (evicted_in k a)

-- the last arrival after the entry of this number: this entry where it brings the file in, none where it evicts it, else as it was
abbrev pub arrival_after : Bool → Bool → ℕ → Option ℕ → Option ℕ
arrival_after true out n before = Some n
arrival_after false true n before = None
arrival_after false false n before = before

-- the last entry that brought the file in, where no later one evicts it
abbrev pub last_arrival : History → ℕ → Option ℕ
last_arrival [] f = None
last_arrival (e ∷ h) f = arrival_after (brings_in e.ask e.answer (next_number h) f) (evicts e.ask e.answer f) (next_number h) (last_arrival h f)

-- the arrival of a file: the entry that made it resident
abbrev pub arrival_of : History → ℕ → Option ℕ
arrival_of h f = if is_live h f then last_arrival h f else None

-- a live file is resident from its arrival until it is evicted
abbrev pub is_resident : History → ℕ → Bool
is_resident h f = is_some (arrival_of h f)
