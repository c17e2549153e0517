-- The lines of a queue whose files fit in some room.
use Rattle.std.specs.Prelude.{ℕ, List, [], ◌∷◌, Option, Some, None, Bool, ◌&&◌, ◌||◌, ◌≡◌, nat_le, filter}
use Rattle.std.proofs.Common.{arith}
use Rattle.cta_model.specs.declared.asks.Job.{Job}
use Rattle.part_model.specs.declared.jobs.Line.{Line}
use Rattle.part_model.specs.Order.{goes_before}
use Rattle.job_queues.specs.declared.queued.Totals.{Totals}
use Rattle.job_queues.specs.Laws.{both_totals}

-- whether the file of a line has at most so many bytes
abbrev pub fits : ℕ → Line → Bool
fits room l = nat_le l.len room

-- the first line
abbrev pub first_line : List Line → Option Line
first_line [] = None
first_line (l ∷ ls) = Some l

-- the first line whose file fits in the room
abbrev pub first_fitting : ℕ → List Line → Option Line
first_fitting room ls = first_line (filter (fits room) ls)

-- the first line behind a job whose file fits in the room
abbrev pub next_fitting : ℕ → Job → List Line → Option Line
next_fitting room j ls = first_line (filter (λ (l : Line). goes_before j l.job && fits room l) ls)

-- whether the least size of these totals is at most so many bytes
abbrev pub some_fits : ℕ → Totals → Bool
some_fits room t = nat_le t.least room

-- some line of two totals fits exactly where one of either fits
pub fits_either : (room : ℕ) (a b : Totals) → some_fits room (both_totals a b) ≡ (some_fits room a || some_fits room b)
fits_either room a b = grind arith
