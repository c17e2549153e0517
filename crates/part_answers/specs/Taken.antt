-- What a Claim takes of a queue.
use Rattle.std.specs.Prelude.{ℕ, zero, suc, ◌≡◌, ◌+◌, ◌-◌, true, List, [], ◌∷◌, Option, Some, None, if◌then◌else◌, nat_le, filter}
use Rattle.cta_model.specs.declared.asks.Job.{Job}
use Rattle.cta_model.specs.History.{History, entry_of}
use Rattle.kept_history.specs.Puts.{is_put}
use Rattle.part_model.specs.declared.jobs.Line.{Line}
use Rattle.part_model.specs.Order.{goes_before}

-- the lines behind a job, all where there is none
abbrev pub lines_behind : Option Job → List Line → List Line
lines_behind None ls = ls
lines_behind (Some j) ls = filter (λ (l : Line). goes_before j l.job) ls

-- the bytes of what is taken of lines, in their order: of each whose length fits in the room beside those taken, at most so many
abbrev pub bytes_taken : ℕ → ℕ → List Line → ℕ
bytes_taken count room [] = 0
bytes_taken zero room (l ∷ ls) = 0
bytes_taken (suc n) room (l ∷ ls) = if nat_le l.len room then l.len + bytes_taken n (room - l.len) ls else bytes_taken (suc n) room ls

-- the file of each of these jobs has its Put
abbrev pub HavePuts : History → List Job → Type 0
HavePuts h [] = Unit {0}
HavePuts h (j ∷ js) = (is_put (entry_of h j.file) ≡ true) × HavePuts h js
