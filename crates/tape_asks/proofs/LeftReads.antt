-- Recalls that leave queues one by one.
use Rattle.std.proofs.Common.{◌≡◌, ◌∙◌, ◌+◌, ◌<◌, ℕ, zero, suc, inl, inr, List, [], ◌∷◌, ◌++◌, Bool, true, false, ◌||◌, not, refl, sym, ap, arith, length, take}
use Rattle.std.specs.Prelude.{Option, Some, None, ◌==◌, if◌then◌else◌, filter, get_or}
use Rattle.std.proofs.lemmas.Bool.{eq-eqb}
use Rattle.std.proofs.lemmas.List.{take_more}
use Rattle.cta_model.specs.declared.asks.Job.{Job}
use Rattle.cta_model.specs.Mounts.{has_job, same_job}
use Rattle.cta_laws.proofs.Tests.{bool_cases, or_left, or_right}
use Rattle.part_model.specs.declared.jobs.Line.{Line}
use Rattle.part_model.specs.Queues.{Lines, drop_jobs, taken_out}
use Rattle.part_laws.proofs.Orders.{not_either, same_flip}
use Rattle.job_queues.specs.Waiting.{jobs_of}
use Rattle.part_moves.proofs.LeftLines.{absent_stays, left, none_dropped, none_or, stands_nowhere, taken_from, was_there}

or_none : (a : Bool) → (a || false) ≡ a
or_none true = refl
or_none false = refl

or_apart : (a b c : Bool) → (a || (b || c)) ≡ ((a || b) || c)
or_apart true b c = refl
or_apart false b c = refl

has_last : (i : Job) (js : List Job) (j : Job) → has_job i (js ++ j ∷ []) ≡ (has_job i js || same_job i j)
has_last i [] j = or_none (same_job i j)
has_last i (k ∷ js) j = ap (λ (b : Bool). same_job i k || b) (has_last i js j) ∙ or_apart (same_job i k) (has_job i js) (same_job i j)

-- the others leave, and then the last
left_last : (js : List Job) (j : Job) (ls : List Line) → left (j ∷ []) (left js ls) ≡ left (js ++ j ∷ []) ls
left_last js j [] = refl
left_last js j (l ∷ ls) =
    by (has_job l.job js) (same_job l.job j) refl (left_last js j ls)
    ∙ ap (λ (b : Bool). if not b then l ∷ left (js ++ j ∷ []) ls else left (js ++ j ∷ []) ls) (sym (has_last l.job js j))
  where
    by : (a b : Bool) → same_job l.job j ≡ b → left (j ∷ []) (left js ls) ≡ left (js ++ j ∷ []) ls
        → left (j ∷ []) (if not a then l ∷ left js ls else left js ls) ≡ (if not (a || b) then l ∷ left (js ++ j ∷ []) ls else left (js ++ j ∷ []) ls)
    by true b is rest = rest
    by false true is rest = rw is rest
    by false false is rest = rw is (ap (λ (ks : List Line). l ∷ ks) rest)

-- ---- one job leaves

-- the key that is known is the one that was found
pub key_left : (j : Job) (old now : Lines) (key k : ℕ) (o : Option ℕ) → now k ≡ taken_out key (j ∷ []) old k → (has_job j (jobs_of (old k)) ≡ true → o ≡ Some k) → Some key ≡ o → now k ≡ drop_jobs (j ∷ []) old k
key_left j old now key k o taken stands found = taken_from j old now key k taken (λ there. (let is : Some k ≡ Some key = sym (stands there) ∙ sym found in cc))

-- without a key it stands nowhere
pub none_left : (j : Job) (lines : Lines) (k : ℕ) (o : Option ℕ) → (has_job j (jobs_of (lines k)) ≡ true → o ≡ Some k) → None ≡ o → lines k ≡ drop_jobs (j ∷ []) lines k
none_left j lines k o stands found = stands_nowhere j lines k (λ there. (let is : Some k ≡ None = sym (stands there) ∙ sym found in absurd (cc)))

-- ---- several jobs leave, one by one

pub none_leave : (lines : Lines) (k : ℕ) → lines k ≡ drop_jobs [] lines k
none_leave lines k = none_dropped (lines k)

has_at : (js : List Job) (i : ℕ) (d : Job) → i < length js → has_job (get_or js i d) js ≡ true
has_at [] i d low = absurd (omega (arith, low))
has_at (j ∷ js) zero d low = or_left (same_job j j) (has_job j js) (grind arith)
has_at (j ∷ js) (suc i) d low = or_right (same_job (get_or js i d) j) (has_job (get_or js i d) js) (has_at js i d (omega (arith, low)))

-- what is known of all where they stand
abbrev pub StandBy : (Job → Option ℕ) → Lines → List Job → Type 0
StandBy key lines js = (j : Job) → has_job j js ≡ true → (k : ℕ) → has_job j (jobs_of (lines k)) ≡ true → key j ≡ Some k

-- is known of each when those before it have left
pub stands_at : (key : Job → Option ℕ) (old mid : Lines) (js : List Job) (i : ℕ) (d : Job) → i < length js → StandBy key old js → ((k : ℕ) → mid k ≡ drop_jobs (take i js) old k) → (k : ℕ) → has_job (get_or js i d) (jobs_of (mid k)) ≡ true → key (get_or js i d) ≡ Some k
stands_at key old mid js i d low stand were k there =
    stand (get_or js i d) (has_at js i d low) k (was_there (get_or js i d) (take i js) (old k) (sym (ap (λ (ls : List Line). has_job (get_or js i d) (jobs_of ls)) (were k)) ∙ there))

pub left_more : (js : List Job) (i : ℕ) (d : Job) (old mid now : Lines) (k : ℕ) → i < length js → mid k ≡ drop_jobs (take i js) old k → now k ≡ drop_jobs (get_or js i d ∷ []) mid k → now k ≡ drop_jobs (take (i + 1) js) old k
left_more js i d old mid now k low were one = one ∙ ap (left (get_or js i d ∷ [])) were ∙ left_last (take i js) (get_or js i d) (old k) ∙ ap (λ (xs : List Job). left xs (old k)) (sym (take_more js i d low))
