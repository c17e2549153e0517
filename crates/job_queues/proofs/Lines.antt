-- The lines of trees after their calls.
use Rattle.std.proofs.Common.{◌≡◌, ◌∙◌, ◌<◌, ◌≤◌, ◌+◌, ◌^◌, ℕ, zero, suc, List, [], ◌∷◌, length, Bool, true, false, ◌||◌, refl, sym, ap, subst, arith}
use Rattle.std.specs.Prelude.{◌==◌, ◌&&◌, not, filter, if◌then◌else◌}
use Rattle.std.proofs.Math.ListN.{set}
use Rattle.std.proofs.lemmas.Bool.{eqb-true}
use Rattle.std.proofs.lemmas.List.Sums.{sum_by-cons}
use Rattle.cta_model.specs.declared.asks.Job.{Job}
use Rattle.cta_model.specs.Mounts.{same_job, has_job}
use Rattle.part_model.specs.declared.jobs.Line.{Line}
use Rattle.part_model.specs.Order.{goes_before}
use Rattle.part_model.specs.Queues.{Queues, lines_in, insert_line, added, taken_out}
use Rattle.sum_trees.specs.Order.{inserted, unlike, is_like, has_like}
use Rattle.sum_trees.specs.Forests.{items_in, AreEmpty}
use Rattle.sum_trees.proofs.Stands.{set_here, set_there}
use Rattle.job_queues.specs.declared.queued.Queued.{Queued}
use Rattle.job_queues.specs.Laws.{queued_before, Below, Level, Above, way}
use Rattle.job_queues.specs.Waiting.{line_of, lines_of, queues_of, bytes_of, jobs_of, AreStarted}

-- ---- one order

never_both : (a b : Job) → goes_before a b ≡ true → same_job a b ≡ false
never_both a b e = grind arith

never_behind : (a b : Job) → goes_before b a ≡ true → same_job a b ≡ false
never_behind a b e = grind arith

negated_first : (a b : Bool) → a ≡ true → not (a || b) ≡ false
negated_first true b e = refl
negated_first false b e = absurd (cc)

negated_last : (a b : Bool) → b ≡ true → not (a || b) ≡ false
negated_last true b e = refl
negated_last false b e = ap not e

negated_none : (a b : Bool) → a ≡ false → b ≡ false → not (a || b) ≡ true
negated_none true b e f = absurd (cc)
negated_none false b e f = ap not f

before_here : (a b : Job) → a.birth ≡ b.birth → a.file ≡ b.file → a.copy ≡ b.copy → goes_before a b ≡ false
before_here a b p q r = grind arith

same_here : (a b : Job) → a.birth ≡ b.birth → a.file ≡ b.file → a.copy ≡ b.copy → same_job a b ≡ true
same_here a b p q r = grind arith

first_said : (a b : Job) → goes_before a b ≡ true → not (goes_before a b || goes_before b a) ≡ same_job a b
first_said a b e = negated_first (goes_before a b) (goes_before b a) e ∙ sym (never_both a b e)

last_said : (a b : Job) → goes_before b a ≡ true → not (goes_before a b || goes_before b a) ≡ same_job a b
last_said a b e = negated_last (goes_before a b) (goes_before b a) e ∙ sym (never_behind a b e)

by_birth : (a b : Job) → a.birth < b.birth → goes_before a b ≡ true
by_birth a b p = grind arith

by_file : (a b : Job) → a.birth ≡ b.birth → a.file < b.file → goes_before a b ≡ true
by_file a b p q = grind arith

by_copy : (a b : Job) → a.birth ≡ b.birth → a.file ≡ b.file → a.copy < b.copy → goes_before a b ≡ true
by_copy a b p q r = grind arith

-- two jobs of which neither comes first are the same
pub same_unordered : (a b : Job) → not (goes_before a b || goes_before b a) ≡ same_job a b
same_unordered a b =
    elim (way a.birth b.birth) [
      | Below h ↦ first_said a b (by_birth a b h)
      | Level h ↦ elim (way a.file b.file) [
        | Below k ↦ first_said a b (by_file a b h k)
        | Level k ↦ elim (way a.copy b.copy) [
          | Below n ↦ first_said a b (by_copy a b h k n)
          | Level n ↦ negated_none (goes_before a b) (goes_before b a) (before_here a b h k n) (before_here b a (sym h) (sym k) (sym n)) ∙ sym (same_here a b h k n)
          | Above n ↦ last_said a b (by_copy b a (sym h) (sym k) n)
        ]
        | Above k ↦ last_said a b (by_file b a (sym h) k)
      ]
      | Above h ↦ last_said a b (by_birth b a h)
    ]

pub like_is_job : (q : Queued) (qs : List Queued) → has_like queued_before q qs ≡ has_job q.job (jobs_of (lines_of qs))
like_is_job q [] = refl
like_is_job q (x ∷ qs) = (λ i. same_unordered q.job x.job i || like_is_job q qs i)

-- ---- lines of items

pub lines_inserted : (q : Queued) (qs : List Queued) → lines_of (inserted queued_before q qs) ≡ insert_line (line_of q) (lines_of qs)
lines_inserted q [] = refl
lines_inserted q (x ∷ qs) =
    elim (goes_before q.job x.job) as (λ c. lines_of (if c then q ∷ x ∷ qs else x ∷ inserted queued_before q qs) ≡ (if c then (line_of q) ∷ (line_of x) ∷ lines_of qs else (line_of x) ∷ insert_line (line_of q) (lines_of qs)))
    [ true ↦ refl | false ↦ ap (λ l. (line_of x) ∷ l) (lines_inserted q qs) ]

either_no : (a : Bool) → (a || false) ≡ a
either_no true = refl
either_no false = refl

flip_nat : (x y : ℕ) → (x == y) ≡ (y == x)
flip_nat x y = grind arith

flip_same : (a b : Job) → same_job a b ≡ same_job b a
flip_same a b = (λ i. flip_nat a.birth b.birth i && (flip_nat a.file b.file i && flip_nat a.copy b.copy i))

kept_is : (q x : Queued) → not (is_like queued_before q x) ≡ not (has_job x.job (q.job ∷ []))
kept_is q x = ap not (same_unordered q.job x.job ∙ flip_same q.job x.job ∙ sym (either_no (same_job x.job q.job)))

-- the lines that are not of this job
abbrev others : Job → List Line → List Line
others j ls = filter (λ (l : Line). not (has_job l.job (j ∷ []))) ls

kept_step : (x : Queued) (us : List Queued) (ls : List Line) (a b : Bool) → a ≡ b → lines_of us ≡ ls → lines_of (if a then x ∷ us else us) ≡ (if b then (line_of x) ∷ ls else ls)
kept_step x us ls true true e f = ap (λ l. (line_of x) ∷ l) f
kept_step x us ls true false e f = absurd (cc)
kept_step x us ls false true e f = absurd (cc)
kept_step x us ls false false e f = f

pub lines_unlike : (q : Queued) (qs : List Queued) → lines_of (unlike queued_before q qs) ≡ others q.job (lines_of qs)
lines_unlike q [] = refl
lines_unlike q (x ∷ qs) =
    kept_step x (unlike queued_before q qs) (others q.job (lines_of qs)) (not (is_like queued_before q x)) (not (has_job x.job (q.job ∷ []))) (kept_is q x) (lines_unlike q qs)

-- ---- the queues of trees

pub queue_is : (trees : List (List Queued)) (k : ℕ) → lines_in (queues_of trees) k ≡ lines_of (items_in trees k)
queue_is [] k = refl
queue_is (t ∷ trees) zero = refl
queue_is (t ∷ trees) (suc k) = queue_is trees k

pub as_many : (trees : List (List Queued)) → length (queues_of trees) ≡ length trees
as_many [] = refl
as_many (t ∷ trees) = ap suc (as_many trees)

pub within : (trees : List (List Queued)) (v : Queues) (key : ℕ) → queues_of trees ≡ v → key < length v → key < length trees
within trees v key e h = let n : length (queues_of trees) ≡ length trees = as_many trees in let l : length (queues_of trees) ≡ length v = ap length e in omega arith

pub line_tree : (trees : List (List Queued)) (v : Queues) (key : ℕ) → queues_of trees ≡ v → lines_of (items_in trees key) ≡ lines_in v key
line_tree trees v key e = sym (queue_is trees key) ∙ ap (λ q. lines_in q key) e

turned : (j k : ℕ) → (j == k) ≡ false → (k == j) ≡ false
turned j k h = grind arith

pub lacks_like : (trees : List (List Queued)) (v : Queues) (key : ℕ) (q : Queued) → queues_of trees ≡ v → has_job q.job (jobs_of (lines_in v key)) ≡ false → has_like queued_before q (items_in trees key) ≡ false
lacks_like trees v key q e h = like_is_job q (items_in trees key) ∙ ap (λ l. has_job q.job (jobs_of l)) (line_tree trees v key e) ∙ h

pub had_job : (trees : List (List Queued)) (v : Queues) (key : ℕ) (q : Queued) (job : Job) → queues_of trees ≡ v → q.job ≡ job → has_like queued_before q (items_in trees key) ≡ has_job job (jobs_of (lines_in v key))
had_job trees v key q job e is = like_is_job q (items_in trees key) ∙ (λ i. has_job (is i) (jobs_of (line_tree trees v key e i)))

pub add_lines : (trees now : List (List Queued)) (v : Queues) (key : ℕ) (q : Queued) → queues_of trees ≡ v → key < length v → now ≡ set trees key (inserted queued_before q (items_in trees key))
    → (k : ℕ) → lines_in (queues_of now) k ≡ added key (line_of q) (lines_in v) k
add_lines trees now v key q e lt is k =
    queue_is now k
    ∙ elim (k == key) as (λ c. (k == key) ≡ c → lines_of (items_in now k) ≡ (if c then insert_line (line_of q) (lines_in v k) else lines_in v k)) [
      | true ↦ λ same. (let at : k ≡ key = eqb-true k key same in
          ap (λ j. lines_of (items_in now j)) at ∙ ap (λ t. lines_of (items_in t key)) is
          ∙ ap lines_of (set_here trees key (inserted queued_before q (items_in trees key)) [] (within trees v key e lt))
          ∙ lines_inserted q (items_in trees key) ∙ ap (insert_line (line_of q)) (line_tree trees v key e) ∙ ap (λ j. insert_line (line_of q) (lines_in v j)) (sym at))
      | false ↦ λ other. ap (λ t. lines_of (items_in t k)) is
          ∙ ap lines_of (set_there trees key k (inserted queued_before q (items_in trees key)) [] (turned k key other)) ∙ line_tree trees v k e
    ] refl

pub take_lines : (trees now : List (List Queued)) (v : Queues) (key : ℕ) (q : Queued) (job : Job) → queues_of trees ≡ v → key < length v → q.job ≡ job → now ≡ set trees key (unlike queued_before q (items_in trees key))
    → (k : ℕ) → lines_in (queues_of now) k ≡ taken_out key (job ∷ []) (lines_in v) k
take_lines trees now v key q job e lt which is k =
    queue_is now k
    ∙ elim (k == key) as (λ c. (k == key) ≡ c → lines_of (items_in now k) ≡ (if c then others job (lines_in v k) else lines_in v k)) [
      | true ↦ λ same. (let at : k ≡ key = eqb-true k key same in
          ap (λ j. lines_of (items_in now j)) at ∙ ap (λ t. lines_of (items_in t key)) is
          ∙ ap lines_of (set_here trees key (unlike queued_before q (items_in trees key)) [] (within trees v key e lt))
          ∙ lines_unlike q (items_in trees key) ∙ (λ i. others (which i) (line_tree trees v key e i)) ∙ ap (λ j. others job (lines_in v j)) (sym at))
      | false ↦ λ other. ap (λ t. lines_of (items_in t k)) is
          ∙ ap lines_of (set_there trees key k (unlike queued_before q (items_in trees key)) [] (turned k key other)) ∙ line_tree trees v k e
    ] refl

-- ---- bytes

pub bytes_cons : (l : Line) (ls : List Line) → bytes_of (l ∷ ls) ≡ l.len + bytes_of ls
bytes_cons l ls = sum_by-cons (λ (k : Line). k.len) l ls

inserted_front : (l k : Line) (ks : List Line) → bytes_of (l ∷ k ∷ ks) ≡ bytes_of (k ∷ ks) + l.len
inserted_front l k ks = let e : bytes_of (l ∷ k ∷ ks) ≡ l.len + bytes_of (k ∷ ks) = bytes_cons l (k ∷ ks) in omega arith

inserted_later : (l k : Line) (ks now : List Line) → bytes_of now ≡ bytes_of ks + l.len → bytes_of (k ∷ now) ≡ bytes_of (k ∷ ks) + l.len
inserted_later l k ks now h =
    let e : bytes_of (k ∷ now) ≡ k.len + bytes_of now = bytes_cons k now in
    let f : bytes_of (k ∷ ks) ≡ k.len + bytes_of ks = bytes_cons k ks in
    omega arith

bytes_inserted : (l : Line) (ls : List Line) → bytes_of (insert_line l ls) ≡ bytes_of ls + l.len
bytes_inserted l [] = let e : bytes_of (l ∷ []) ≡ l.len + bytes_of [] = bytes_cons l [] in omega arith
bytes_inserted l (k ∷ ks) =
    elim (goes_before l.job k.job) as (λ c. bytes_of (if c then l ∷ k ∷ ks else k ∷ insert_line l ks) ≡ bytes_of (k ∷ ks) + l.len)
    [ true ↦ inserted_front l k ks | false ↦ inserted_later l k ks (insert_line l ks) (bytes_inserted l ks) ]

kept_bytes : (l : Line) (ls now : List Line) → bytes_of now ≤ bytes_of ls → bytes_of (l ∷ now) ≤ bytes_of (l ∷ ls)
kept_bytes l ls now h =
    let e : bytes_of (l ∷ now) ≡ l.len + bytes_of now = bytes_cons l now in
    let f : bytes_of (l ∷ ls) ≡ l.len + bytes_of ls = bytes_cons l ls in
    omega arith

gone_bytes : (l : Line) (ls now : List Line) → bytes_of now ≤ bytes_of ls → bytes_of now ≤ bytes_of (l ∷ ls)
gone_bytes l ls now h = let f : bytes_of (l ∷ ls) ≡ l.len + bytes_of ls = bytes_cons l ls in omega arith

bytes_left : (p : Line → Bool) (ls : List Line) → bytes_of (filter p ls) ≤ bytes_of ls
bytes_left p [] = omega arith
bytes_left p (l ∷ ls) =
    elim (p l) as (λ c. bytes_of (if c then l ∷ filter p ls else filter p ls) ≤ bytes_of (l ∷ ls))
    [ true ↦ kept_bytes l ls (filter p ls) (bytes_left p ls) | false ↦ gone_bytes l ls (filter p ls) (bytes_left p ls) ]

lower : (a b : ℕ) → a ≤ b → b < 2 ^ 64 → a < 2 ^ 64
lower a b h g = omega arith

pub add_fits : (trees now : List (List Queued)) (v : Queues) (key : ℕ) (q : Queued) → queues_of trees ≡ v → key < length v → now ≡ set trees key (inserted queued_before q (items_in trees key))
    → bytes_of (lines_in v key) + q.len < 2 ^ 64 → ((k : ℕ) → bytes_of (lines_in (queues_of trees) k) < 2 ^ 64) → (k : ℕ) → bytes_of (lines_in (queues_of now) k) < 2 ^ 64
add_fits trees now v key q e lt is fits was k =
    subst (λ (l : List Line). bytes_of l < 2 ^ 64) (sym (add_lines trees now v key q e lt is k))
    (elim (k == key) as (λ c. (k == key) ≡ c → bytes_of (if c then insert_line (line_of q) (lines_in v k) else lines_in v k) < 2 ^ 64) [
      | true ↦ λ same. subst (λ (j : ℕ). bytes_of (insert_line (line_of q) (lines_in v j)) < 2 ^ 64) (sym (eqb-true k key same)) (let n : bytes_of (insert_line (line_of q) (lines_in v key)) ≡ bytes_of (lines_in v key) + q.len = bytes_inserted (line_of q) (lines_in v key) in omega arith)
      | false ↦ λ other. subst (λ (w : Queues). bytes_of (lines_in w k) < 2 ^ 64) e (was k)
    ] refl)

pub take_fits : (trees now : List (List Queued)) (v : Queues) (key : ℕ) (q : Queued) (job : Job) → queues_of trees ≡ v → key < length v → q.job ≡ job → now ≡ set trees key (unlike queued_before q (items_in trees key))
    → ((k : ℕ) → bytes_of (lines_in (queues_of trees) k) < 2 ^ 64) → (k : ℕ) → bytes_of (lines_in (queues_of now) k) < 2 ^ 64
take_fits trees now v key q job e lt which is was k =
    subst (λ (l : List Line). bytes_of l < 2 ^ 64) (sym (take_lines trees now v key q job e lt which is k))
    (let old : bytes_of (lines_in v k) < 2 ^ 64 = subst (λ (w : Queues). bytes_of (lines_in w k) < 2 ^ 64) e (was k) in
    elim (k == key) as (λ c. bytes_of (if c then others job (lines_in v k) else lines_in v k) < 2 ^ 64)
    [ true ↦ lower (bytes_of (others job (lines_in v k))) (bytes_of (lines_in v k)) (bytes_left (λ (l : Line). not (has_job l.job (job ∷ []))) (lines_in v k)) old | false ↦ old ])

-- ---- at the start

pub started : (keys : ℕ) (trees : List (List Queued)) → AreEmpty keys trees → AreStarted keys (queues_of trees)
started keys trees e = record { many = as_many trees ∙ e.many; empty = λ k. queue_is trees k ∙ ap lines_of (e.empty k) }

pub starts_fit : (keys : ℕ) (trees : List (List Queued)) → AreEmpty keys trees → (k : ℕ) → bytes_of (lines_in (queues_of trees) k) < 2 ^ 64
starts_fit keys trees e k = subst (λ (l : List Line). bytes_of l < 2 ^ 64) (sym ((started keys trees e).empty k)) (omega arith)
