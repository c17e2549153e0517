-- What was taken out is not there.
use Rattle.std.proofs.Common.{◌≡◌, ◌∙◌, ℕ, List, [], ◌∷◌, Some, None, Bool, true, false, ◌||◌, refl, sym, ap, arith}
use Rattle.std.specs.Prelude.{◌==◌, ◌&&◌, not, filter, if◌then◌else◌}
use Rattle.std.proofs.lemmas.Bool.{eq-eqb}
use Rattle.cta_model.specs.declared.asks.Job.{Job}
use Rattle.cta_model.specs.declared.states.Sums.{Sums}
use Rattle.cta_model.specs.Mounts.{has_copy, has_job, same_job}
use Rattle.part_model.specs.declared.jobs.Line.{Line}
use Rattle.part_model.specs.Failed.{removed_copies}
use Rattle.part_model.specs.Queues.{Queues, lines_in, taken_out, line_sums}
use Rattle.job_queues.specs.Waiting.{bytes_of, jobs_of}

either_no : (a : Bool) → (a || false) ≡ a
either_no true = refl
either_no false = refl

neither : (a b : Bool) → a ≡ false → b ≡ false → (a || b) ≡ false
neither true b e f = e
neither false b e f = f

flip_job : (a b : Job) → same_job a b ≡ same_job b a
flip_job a b = (λ i. flip a.birth b.birth i && (flip a.file b.file i && flip a.copy b.copy i))
  where
    flip : (x y : ℕ) → (x == y) ≡ (y == x)
    flip x y = grind arith

-- the lines without a job
abbrev left_lines : Job → List Line → List Line
left_lines job ls = filter (λ (l : Line). not (has_job l.job (job ∷ []))) ls

lines_lack : (job : Job) (ls : List Line) → has_job job (jobs_of (left_lines job ls)) ≡ false
lines_lack job [] = refl
lines_lack job (l ∷ ls) = by (has_job l.job (job ∷ [])) refl (left_lines job ls) (lines_lack job ls)
  where
    by : (a : Bool) → has_job l.job (job ∷ []) ≡ a → (rest : List Line) → has_job job (jobs_of rest) ≡ false → has_job job (jobs_of (if not a then l ∷ rest else rest)) ≡ false
    by true e rest none = none
    by false e rest none = neither _ _ (flip_job job l.job ∙ sym (either_no (same_job l.job job)) ∙ e) none

pub lacks_taken : (old new : Queues) (key : ℕ) (job : Job) → ((k : ℕ) → lines_in new k ≡ taken_out key (job ∷ []) (lines_in old) k) → has_job job (jobs_of (lines_in new key)) ≡ false
lacks_taken old new key job each =
    ap (λ l. has_job job (jobs_of l)) (each key ∙ ap (λ (b : Bool). if b then left_lines job (lines_in old key) else lines_in old key) (eq-eqb key key refl)) ∙ lines_lack job (lines_in old key)

pub sums_bytes : (ls : List Line) (sums : Sums) → Some sums ≡ line_sums ls → sums.bytes ≡ bytes_of ls
sums_bytes [] sums e = absurd (cc)
sums_bytes (l ∷ ls) sums e = ap (λ (s : Sums). s.bytes) (same sums _ e)
  where
    same : (a b : Sums) → Some a ≡ Some b → a ≡ b
    same a b h = cc

pub no_bytes : (ls : List Line) → None ≡ line_sums ls → 0 ≡ bytes_of ls
no_bytes [] e = refl
no_bytes (l ∷ ls) e = absurd (cc)

copies_lack : (job : Job) (js : List Job) → has_copy job.file job.copy (removed_copies (job ∷ []) js) ≡ false
copies_lack job [] = refl
copies_lack job (j ∷ js) = by (has_copy j.file j.copy (job ∷ [])) refl (removed_copies (job ∷ []) js) (copies_lack job js)
  where
    flip : (x y : ℕ) → (x == y) ≡ (y == x)
    flip x y = grind arith

    by : (a : Bool) → has_copy j.file j.copy (job ∷ []) ≡ a → (rest : List Job) → has_copy job.file job.copy rest ≡ false → has_copy job.file job.copy (if not a then j ∷ rest else rest) ≡ false
    by true e rest none = none
    by false e rest none = neither _ _ ((λ i. flip j.file job.file i && flip j.copy job.copy i) ∙ sym (either_no (job.file == j.file && job.copy == j.copy)) ∙ e) none

pub lacks_copy : (old new : List Job) (job : Job) → new ≡ removed_copies (job ∷ []) old → has_copy job.file job.copy new ≡ false
lacks_copy old new job is = ap (λ l. has_copy job.file job.copy l) is ∙ copies_lack job old
