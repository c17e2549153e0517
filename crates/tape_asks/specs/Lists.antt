-- The jobs that a repack bears, and the recalls that it joins, as the parts tell them.
use Rattle.std.specs.Prelude.{ℕ, ◌≡◌, List, [], ◌∷◌, Option, Some, None, is_none, is_some, false, ◌&&◌, not, if◌then◌else◌, map}
use Rattle.cta_model.specs.declared.asks.Job.{Job}
use Rattle.cta_model.specs.History.{has_number}
use Rattle.cta_model.specs.Mounts.{job_of}
use Rattle.cta_model.specs.Recalls.{recall_job}
use Rattle.part_model.specs.declared.space.HeldPin.{HeldPin}
use Rattle.part_model.specs.Held.{Held, is_held, no_end}
use Rattle.part_model.specs.JobBook.{Book}
use Rattle.part_model.specs.Repacks.{Target}

-- the file of an item, where its recall is live
abbrev pub joined_by : Book → Job → Option ℕ
joined_by b j = if is_some (b.recall j.file) then Some j.file else None

-- the recall of an item's file, where none is live and the file is not in the buffer
abbrev pub newborn_by : Held → Book → ℕ → Job → Option Job
newborn_by held b n j = if is_none (b.recall j.file) && not (is_held held j.file) then Some (recall_job n j.file) else None

-- the archive job of an item's copy, where the file is in the buffer
abbrev pub written_by : Held → ℕ → Job → Option Job
written_by held n j = if is_held held j.file then Some (job_of n j.file j.copy) else None

-- no number is listed twice
abbrev pub AreOnce : List ℕ → Type 0
AreOnce [] = Unit {0}
AreOnce (f ∷ fs) = (has_number f fs ≡ false) × AreOnce fs

-- the copies of these jobs in a repack
abbrev pub targets_of : ℕ → List Job → List Target
targets_of id jobs = map (λ (j : Job). (id, j.file, j.copy)) jobs

-- a pin without an end of the file of each of these jobs
abbrev pub pins_of : ℕ → List Job → List HeldPin
pins_of id jobs = map (λ (j : Job). record { file = j.file; owner = id; until = no_end }) jobs
