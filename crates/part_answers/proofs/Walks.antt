-- A walk along a queue that takes what fits.
use Rattle.std.proofs.Common.{◌≡◌, ◌∙◌, ◌+◌, ◌-◌, ◌≤◌, ◌<◌, ℕ, zero, suc, List, [], ◌∷◌, ◌++◌, Option, Some, None, Bool, true, false, ◌||◌, refl, sym, ap, subst, arith, append_assoc, append-nil}
use Rattle.std.specs.Prelude.{◌&&◌, filter, if◌then◌else◌, nat_le}
use Rattle.cta_model.specs.declared.asks.Job.{Job}
use Rattle.part_model.specs.declared.jobs.Line.{Line}
use Rattle.part_model.specs.Order.{ComesBefore, InOrder, goes_before}
use Rattle.part_laws.specs.Batches.{taken_lines}
use Rattle.job_queues.specs.Fitting.{first_fitting, first_line, fits, next_fitting}
use Rattle.job_queues.specs.Laws.{before_one_way, before_splits}
use Rattle.job_queues.specs.Waiting.{jobs_of}
use Rattle.part_answers.specs.Taken.{bytes_taken, lines_behind}

-- ---- the order of jobs

or_first : (a b : Bool) → (a || b) ≡ true → b ≡ false → a ≡ true
or_first true b e f = refl
or_first false true e f = absurd (cc)
or_first false false e f = absurd (cc)

-- a job before one that is before a third is before the third
pub before_both : (a b c : Job) → goes_before a b ≡ true → goes_before b c ≡ true → goes_before a c ≡ true
before_both a b c e f = or_first (goes_before a c) (goes_before c b) (before_splits a c b e) (before_one_way b c f)

never_itself : (a : Job) → goes_before a a ≡ false
never_itself a = grind arith

-- ---- filters

-- the lines behind a job in lines that all come behind another job are those behind it
behind_all : (j : Job) (ls : List Line) → ComesBefore j (jobs_of ls) → filter (λ (l : Line). goes_before j l.job) ls ≡ ls
behind_all j [] e = refl
behind_all j (l ∷ ls) e = rw e.0 (ap (λ ks. l ∷ ks) (behind_all j ls e.1))

-- a line that is found in lines behind a job comes behind it
found_behind : (j : Job) (room : ℕ) (ls : List Line) (l : Line) → ComesBefore j (jobs_of ls) → Some l ≡ first_fitting room ls → goes_before j l.job ≡ true
found_behind j room [] l e f = absurd (cc)
found_behind j room (k ∷ ks) l e f =
    elim (fits room k) as (λ b. Some l ≡ first_line (if b then k ∷ filter (fits room) ks else filter (fits room) ks) → goes_before j l.job ≡ true) [
      | true ↦ λ g. (let same : l ≡ k = cc in ap (λ (x : Line). goes_before j x.job) same ∙ e.0)
      | false ↦ λ g. found_behind j room ks l e.1 g
    ] f

-- a line that is found in filtered lines passes the filter
found_passes : (p : Line → Bool) (room : ℕ) (ls : List Line) (l : Line) → Some l ≡ first_fitting room (filter p ls) → p l ≡ true
found_passes p room [] l f = absurd (cc)
found_passes p room (k ∷ ks) l f =
    elim (p k) as (λ b. p k ≡ b → Some l ≡ first_fitting room (if b then k ∷ filter p ks else filter p ks) → p l ≡ true) [
      | true ↦ λ is g. found_here p room k (filter p ks) l is (λ h. found_passes p room ks l h) g
      | false ↦ λ is g. found_passes p room ks l g
    ] refl f
  where
    found_here : (p : Line → Bool) (room : ℕ) (k : Line) (rest : List Line) (l : Line) → p k ≡ true → (Some l ≡ first_fitting room rest → p l ≡ true) → Some l ≡ first_fitting room (k ∷ rest) → p l ≡ true
    found_here p room k rest l is later g =
        elim (fits room k) as (λ b. Some l ≡ first_line (if b then k ∷ filter (fits room) rest else filter (fits room) rest) → p l ≡ true) [
          | true ↦ λ h. (let same : l ≡ k = cc in ap p same ∙ is)
          | false ↦ λ h. later h
        ] g

-- behind a later job, whether all lines are looked at or those behind an earlier one
behind_twice : (j k : Job) (ls : List Line) → goes_before j k ≡ true → filter (λ (l : Line). goes_before k l.job) (filter (λ (l : Line). goes_before j l.job) ls) ≡ filter (λ (l : Line). goes_before k l.job) ls
behind_twice j k [] e = refl
behind_twice j k (l ∷ ls) e =
    elim (goes_before j l.job) as (λ b. goes_before j l.job ≡ b → filter (λ (l : Line). goes_before k l.job) (if b then l ∷ filter (λ (l : Line). goes_before j l.job) ls else filter (λ (l : Line). goes_before j l.job) ls) ≡ (if goes_before k l.job then l ∷ filter (λ (l : Line). goes_before k l.job) ls else filter (λ (l : Line). goes_before k l.job) ls)) [
      | true ↦ λ is. ap (λ (ks : List Line). if goes_before k l.job then l ∷ ks else ks) (behind_twice j k ls e)
      | false ↦ λ is. behind_twice j k ls e ∙ sym (left_out (goes_before k l.job) l (filter (λ (l : Line). goes_before k l.job) ls) (not_behind j k l.job e is))
    ] refl
  where
    left_out : (b : Bool) (l : Line) (ks : List Line) → b ≡ false → (if b then l ∷ ks else ks) ≡ ks
    left_out true l ks e = absurd (cc)
    left_out false l ks e = refl

    not_behind : (j k x : Job) → goes_before j k ≡ true → goes_before j x ≡ false → goes_before k x ≡ false
    not_behind j k x e f =
        elim (goes_before k x) as (λ b. goes_before k x ≡ b → b ≡ false) [
          | true ↦ λ is. absurd (let both : goes_before j x ≡ true = before_both j k x e is in cc)
          | false ↦ λ is. refl
        ] refl

-- ---- a step of a walk

none_taken : (n room : ℕ) (ls : List Line) → None ≡ first_fitting room ls → taken_lines n room ls ≡ []
none_taken n room [] e = refl
none_taken zero room (l ∷ ls) e = refl
none_taken (suc n) room (l ∷ ls) e =
    elim (nat_le l.len room) as (λ b. None ≡ first_line (if b then l ∷ filter (fits room) ls else filter (fits room) ls) → (if b then l.job ∷ taken_lines n (room - l.len) ls else taken_lines (suc n) room ls) ≡ []) [
      | true ↦ λ f. absurd (cc)
      | false ↦ λ f. none_taken (suc n) room ls f
    ] e

no_bytes : (n room : ℕ) (ls : List Line) → None ≡ first_fitting room ls → bytes_taken n room ls ≡ 0
no_bytes n room [] e = refl
no_bytes zero room (l ∷ ls) e = refl
no_bytes (suc n) room (l ∷ ls) e =
    elim (nat_le l.len room) as (λ b. None ≡ first_line (if b then l ∷ filter (fits room) ls else filter (fits room) ls) → (if b then l.len + bytes_taken n (room - l.len) ls else bytes_taken (suc n) room ls) ≡ 0) [
      | true ↦ λ f. absurd (cc)
      | false ↦ λ f. no_bytes (suc n) room ls f
    ] e

full_taken : (room : ℕ) (ls : List Line) → taken_lines 0 room ls ≡ []
full_taken room [] = refl
full_taken room (l ∷ ls) = refl

full_bytes : (room : ℕ) (ls : List Line) → bytes_taken 0 room ls ≡ 0
full_bytes room [] = refl
full_bytes room (l ∷ ls) = refl

-- what is found, and what is behind it
record IsFound (n room : ℕ) (ls : List Line) (l : Line) : Type 0 where
  jobs : taken_lines (suc n) room ls ≡ l.job ∷ taken_lines n (room - l.len) (filter (λ (k : Line). goes_before l.job k.job) ls)
  bytes : bytes_taken (suc n) room ls ≡ l.len + bytes_taken n (room - l.len) (filter (λ (k : Line). goes_before l.job k.job) ls)
  within : l.len ≤ room

fits_within : (a b : ℕ) → nat_le a b ≡ true → a ≤ b
fits_within a b e = grind arith

-- the first line is found
found_first : (n room : ℕ) (ls : List Line) (l : Line) → ComesBefore l.job (jobs_of ls) → nat_le l.len room ≡ true → IsFound n room (l ∷ ls) l
found_first n room ls l before fit =
    let rest : filter (λ (k : Line). goes_before l.job k.job) (l ∷ ls) ≡ ls = rw (never_itself l.job) (behind_all l.job ls before) in
    record {
      jobs = rw fit (ap (λ (ks : List Line). l.job ∷ taken_lines n (room - l.len) ks) (sym rest));
      bytes = rw fit (ap (λ (ks : List Line). l.len + bytes_taken n (room - l.len) ks) (sym rest));
      within = fits_within l.len room fit;
    }

-- a line behind the first one is found
found_later : (n room : ℕ) (k : Line) (ks : List Line) (l : Line) → nat_le k.len room ≡ false → goes_before l.job k.job ≡ false → IsFound n room ks l → IsFound n room (k ∷ ks) l
found_later n room k ks l unfit behind found =
    let rest : filter (λ (x : Line). goes_before l.job x.job) (k ∷ ks) ≡ filter (λ (x : Line). goes_before l.job x.job) ks = rw behind refl in
    record {
      jobs = rw unfit (found.jobs ∙ ap (λ (xs : List Line). l.job ∷ taken_lines n (room - l.len) xs) (sym rest));
      bytes = rw unfit (found.bytes ∙ ap (λ (xs : List Line). l.len + bytes_taken n (room - l.len) xs) (sym rest));
      within = found.within;
    }

is_found : (n room : ℕ) (ls : List Line) (l : Line) → InOrder (jobs_of ls) → Some l ≡ first_fitting room ls → IsFound n room ls l
is_found n room [] l order e = absurd (cc)
is_found n room (k ∷ ks) l order e =
    elim (nat_le k.len room) as (λ b. nat_le k.len room ≡ b → Some l ≡ first_line (if b then k ∷ filter (fits room) ks else filter (fits room) ks) → IsFound n room (k ∷ ks) l) [
      | true ↦ λ is f. (let same : k ≡ l = cc in subst (λ (x : Line). IsFound n room (k ∷ ks) x) same (found_first n room ks k order.0 is))
      | false ↦ λ is f. found_later n room k ks l is (before_one_way k.job l.job (found_behind k.job room ks l order.0 f)) (is_found n room ks l order.1 f)
    ] refl e

ordered_rest : (p : Line → Bool) (ls : List Line) → InOrder (jobs_of ls) → InOrder (jobs_of (filter p ls))
ordered_rest p [] e = tt
ordered_rest p (l ∷ ls) e =
    elim (p l) as (λ b. InOrder (jobs_of (if b then l ∷ filter p ls else filter p ls))) [
      | true ↦ (before_rest p l.job ls e.0, ordered_rest p ls e.1)
      | false ↦ ordered_rest p ls e.1
    ]
  where
    before_rest : (p : Line → Bool) (j : Job) (ls : List Line) → ComesBefore j (jobs_of ls) → ComesBefore j (jobs_of (filter p ls))
    before_rest p j [] e = tt
    before_rest p j (l ∷ ls) e =
        elim (p l) as (λ b. ComesBefore j (jobs_of (if b then l ∷ filter p ls else filter p ls))) [
          | true ↦ (e.0, before_rest p j ls e.1)
          | false ↦ before_rest p j ls e.1
        ]

ordered_behind : (last : Option Job) (ls : List Line) → InOrder (jobs_of ls) → InOrder (jobs_of (lines_behind last ls))
ordered_behind None ls e = e
ordered_behind (Some j) ls e = ordered_rest (λ (l : Line). goes_before j l.job) ls e

-- behind what is found, whatever was taken last before it
behind_found : (last : Option Job) (room : ℕ) (ls : List Line) (l : Line) → Some l ≡ first_fitting room (lines_behind last ls) → filter (λ (k : Line). goes_before l.job k.job) (lines_behind last ls) ≡ lines_behind (Some l.job) ls
behind_found None room ls l e = refl
behind_found (Some j) room ls l e = behind_twice j l.job ls (found_passes (λ (k : Line). goes_before j k.job) room ls l e)

-- ---- the loop

-- what a walk has taken, with what is still to take, is what is to be taken of the whole queue
pub record IsWalked (ls : List Line) (count room counter : ℕ) (jobs : List Job) (last : Option Job) (bytes : ℕ) : Type 0 where
  pub jobs_left : taken_lines count room ls ≡ jobs ++ taken_lines (count - counter) (room - bytes) (lines_behind last ls)
  pub bytes_left : bytes_taken count room ls ≡ bytes + bytes_taken (count - counter) (room - bytes) (lines_behind last ls)
  pub within : bytes ≤ room

pub walk_begins : (ls : List Line) (count room : ℕ) → IsWalked ls count room 0 [] None 0
walk_begins ls count room = record {
  jobs_left = (λ i. taken_lines (same_count i) (same_room i) ls);
  bytes_left = (λ i. bytes_taken (same_count i) (same_room i) ls) ∙ (let z : (n : ℕ) → n ≡ 0 + n = λ n. omega arith in z (bytes_taken (count - 0) (room - 0) ls));
  within = omega arith;
}
  where
    same_count : count ≡ count - 0
    same_count = omega arith

    same_room : room ≡ room - 0
    same_room = omega arith

pub walk_steps : (ls : List Line) (count room counter : ℕ) (jobs now : List Job) (last : Option Job) (bytes : ℕ) (l : Line) → InOrder (jobs_of ls) → counter < count
    → Some l ≡ first_fitting (room - bytes) (lines_behind last ls) → now ≡ jobs ++ l.job ∷ [] → IsWalked ls count room counter jobs last bytes
    → IsWalked ls count room (counter + 1) now (Some l.job) (bytes + l.len)
walk_steps ls count room counter jobs now last bytes l order more found pushed w =
    let left : count - counter ≡ suc (count - (counter + 1)) = omega arith in
    let rest = lines_behind last ls in
    let f : IsFound (count - (counter + 1)) (room - bytes) rest l = is_found (count - (counter + 1)) (room - bytes) rest l (ordered_behind last ls order) found in
    let behind = behind_found last (room - bytes) ls l found in
    let less : (room - bytes) - l.len ≡ room - (bytes + l.len) = omega arith in
    record {
      jobs_left =
          w.jobs_left
          ∙ ap (λ (n : ℕ). jobs ++ taken_lines n (room - bytes) rest) left
          ∙ ap (λ (js : List Job). jobs ++ js) f.jobs
          ∙ (λ i. jobs ++ l.job ∷ taken_lines (count - (counter + 1)) (less i) (behind i))
          ∙ sym (append_assoc jobs (l.job ∷ []) (taken_lines (count - (counter + 1)) (room - (bytes + l.len)) (lines_behind (Some l.job) ls)))
          ∙ ap (λ (js : List Job). js ++ taken_lines (count - (counter + 1)) (room - (bytes + l.len)) (lines_behind (Some l.job) ls)) (sym pushed);
      bytes_left =
          w.bytes_left
          ∙ ap (λ (n : ℕ). bytes + bytes_taken n (room - bytes) rest) left
          ∙ ap (λ (n : ℕ). bytes + n) f.bytes
          ∙ (λ i. bytes + (l.len + bytes_taken (count - (counter + 1)) (less i) (behind i)))
          ∙ (let z : (a b c : ℕ) → a + (b + c) ≡ (a + b) + c = λ a b c. omega arith in z bytes l.len (bytes_taken (count - (counter + 1)) (room - (bytes + l.len)) (lines_behind (Some l.job) ls)));
      within = (let h : l.len ≤ room - bytes = f.within in let g : bytes ≤ room = w.within in omega arith);
    }

-- a walk that finds nothing more, or has taken all that it may, has taken what is to be taken
pub walk_ends : (ls : List Line) (count room counter : ℕ) (jobs : List Job) (last : Option Job) (bytes : ℕ) → None ≡ first_fitting (room - bytes) (lines_behind last ls)
    → IsWalked ls count room counter jobs last bytes → (jobs ≡ taken_lines count room ls) × (bytes ≡ bytes_taken count room ls)
walk_ends ls count room counter jobs last bytes none w = (
  sym (append-nil jobs) ∙ ap (λ (js : List Job). jobs ++ js) (sym (none_taken (count - counter) (room - bytes) (lines_behind last ls) none)) ∙ sym w.jobs_left,
  (let e : bytes_taken (count - counter) (room - bytes) (lines_behind last ls) ≡ 0 = no_bytes (count - counter) (room - bytes) (lines_behind last ls) none in let f = w.bytes_left in omega arith),
)

pub walk_full : (ls : List Line) (count room counter : ℕ) (jobs : List Job) (last : Option Job) (bytes : ℕ) → count ≤ counter
    → IsWalked ls count room counter jobs last bytes → (jobs ≡ taken_lines count room ls) × (bytes ≡ bytes_taken count room ls)
walk_full ls count room counter jobs last bytes all w =
    let none : count - counter ≡ 0 = omega arith in (
      sym (append-nil jobs) ∙ ap (λ (js : List Job). jobs ++ js) (sym (full_taken (room - bytes) (lines_behind last ls))) ∙ ap (λ (n : ℕ). jobs ++ taken_lines n (room - bytes) (lines_behind last ls)) (sym none) ∙ sym w.jobs_left,
      (let e : bytes_taken (count - counter) (room - bytes) (lines_behind last ls) ≡ 0 = ap (λ (n : ℕ). bytes_taken n (room - bytes) (lines_behind last ls)) none ∙ full_bytes (room - bytes) (lines_behind last ls) in let f = w.bytes_left in omega arith),
    )

-- the first line behind a job that fits, as a queue tells it
pub next_is_first : (room : ℕ) (j : Job) (ls : List Line) → next_fitting room j ls ≡ first_fitting room (filter (λ (l : Line). goes_before j l.job) ls)
next_is_first room j ls = ap first_line (split j room ls)
  where
    split : (j : Job) (room : ℕ) (ls : List Line) → filter (λ (l : Line). goes_before j l.job && fits room l) ls ≡ filter (fits room) (filter (λ (l : Line). goes_before j l.job) ls)
    split j room [] = refl
    split j room (l ∷ ls) =
        elim (goes_before j l.job) as (λ b. (if b && fits room l then l ∷ filter (λ (k : Line). goes_before j k.job && fits room k) ls else filter (λ (k : Line). goes_before j k.job && fits room k) ls) ≡ filter (fits room) (if b then l ∷ filter (λ (k : Line). goes_before j k.job) ls else filter (λ (k : Line). goes_before j k.job) ls)) [
          | true ↦ ap (λ (ks : List Line). if fits room l then l ∷ ks else ks) (split j room ls)
          | false ↦ split j room ls
        ]
