-- What the maps of a job book tell.
use Rattle.std.proofs.Common.{◌≡◌, ◌≢◌, ◌∙◌, ℕ, zero, suc, List, [], ◌∷◌, ◌++◌, Bool, true, false, ◌&&◌, ◌||◌, refl, sym, ap, subst, None, Some, length, ◌+◌, ◌<◌, ◌≤◌, ◌⊎◌, inl, inr, arith, not, add-one, length-append}
use Rattle.std.specs.Prelude.{Option, is_some, option_map, if◌then◌else◌, ◌==◌, find, map, filter, nat_le, unwrap_or, slice_get}
use Rattle.std.proofs.lemmas.Bool.Decides.{nat_tests}
use Rattle.std.specs.Map.{lookup}
use Rattle.std.proofs.lemmas.Bool.{eqb-true, eq-eqb}
use Rattle.cta_model.specs.declared.asks.Job.{Job}
use Rattle.cta_model.specs.declared.states.Charge.{Charge}
use Rattle.cta_model.specs.Mounts.{same_job, has_job, has_copy}
use Rattle.cta_model.specs.History.{has_number}
use Rattle.cta_model.specs.Recalls.{Recall}
use Rattle.part_model.specs.declared.jobs.LiveRecall.{LiveRecall}
use Rattle.part_model.specs.declared.jobs.ClaimedJob.{ClaimedJob}
use Rattle.part_model.specs.declared.jobs.ChargedJob.{ChargedJob}
use Rattle.part_model.specs.JobRows.{recall_in, birth_in, claimer_in, charges_or_none}
use Rattle.part_model.specs.JobRows as book
use Rattle.job_book.specs.declared.book.RecallRow.{RecallRow}
use Rattle.job_book.specs.Maps.{CopyKey, JobKey, key_of, job_at, is_pair, is_key, waiting_in, waits_at, charge_at, charges_in, recall_row, birth_row, claim_row, charge_row, named_row, listed, left_out}

pub eq_flip : (a b : ℕ) → (a == b) ≡ (b == a)
eq_flip a b = by (a == b) refl (b == a) refl
  where
    by : (s : Bool) → (a == b) ≡ s → (t : Bool) → (b == a) ≡ t → s ≡ t
    by true e true f = refl
    by false e false f = refl
    by true e false f = (let g : (b == a) ≡ true = eq-eqb b a (sym (eqb-true a b e)) in absurd (cc))
    by false e true f = (let g : (a == b) ≡ true = eq-eqb a b (sym (eqb-true b a f)) in absurd (cc))

assoc : (p q r : Bool) → ((p && q) && r) ≡ (p && (q && r))
assoc true q r = refl
assoc false q r = refl

-- a look-up in rows made of entries is a look-up in the entries
step : {X R C : Type 0} (F : Option R → C) (G : Option X → C) (a b : Bool) (r : R) (x : X) (rs : Option R) (xs : Option X) → a ≡ b → (b ≡ true → F (Some r) ≡ G (Some x)) → F rs ≡ G xs → F (if a then Some r else rs) ≡ G (if b then Some x else xs)
step F G true true r x rs xs e some rest = some refl
step F G false false r x rs xs e some rest = rest
step F G true false r x rs xs e some rest = absurd (cc)
step F G false true r x rs xs e some rest = absurd (cc)

found : {K X R C : Type 0} (p : R → Bool) (test : K → Bool) (g : K × X → R) (F : Option R → C) (G : Option X → C) → ((e : K × X) → p (g e) ≡ test e.0) → F None ≡ G None → ((e : K × X) → test e.0 ≡ true → F (Some (g e)) ≡ G (Some e.1))
    → (es : List (K × X)) → F (find p (map g es)) ≡ G (lookup test es)
found p test g F G same none some [] = none
found p test g F G same none some (e ∷ es) = step F G (p (g e)) (test e.0) (g e) e.1 (find p (map g es)) (lookup test es) (same e) (some e) (found p test g F G same none some es)

-- the recall of a row, for a file
abbrev pub recall_of : List ((ℕ × ℕ) × ℕ) → ℕ → RecallRow → Recall
recall_of waiting f r = record { birth = r.birth; waiting = waiting_in (waits_at waiting f) r.places }

pub recall_in-map : (waiting : List ((ℕ × ℕ) × ℕ)) (f : ℕ) (es : List (ℕ × RecallRow)) → recall_in (map (recall_row waiting) es) f ≡ option_map (recall_of waiting f) (lookup (λ k. f == k) es)
recall_in-map waiting f es =
    found (λ (r : LiveRecall). r.file == f) (λ (k : ℕ). f == k) (recall_row waiting) (option_map (λ (r : LiveRecall). record { birth = r.birth; waiting = r.waiting.items })) (option_map (recall_of waiting f))
    (λ e. eq_flip e.0 f) refl (λ e t. ap (λ (k : ℕ). Some (recall_of waiting k e.1)) (sym (eqb-true f e.0 t))) es

pub birth_in-map : (f c : ℕ) (es : List (CopyKey × ℕ)) → birth_in (map birth_row es) f c ≡ lookup (is_pair f c) es
birth_in-map f c es =
    found (λ (j : Job). j.file == f && j.copy == c) (is_pair f c) birth_row (option_map (λ (j : Job). j.birth)) (λ (o : Option ℕ). o)
    (λ e. ap (λ (b : Bool). b && (e.0.1 == c)) (eq_flip e.0.0 f) ∙ ap (λ (b : Bool). (f == e.0.0) && b) (eq_flip e.0.1 c)) refl (λ e t. refl) es

same_key : (j : Job) (k : JobKey) → same_job j (job_at k) ≡ is_key (key_of j) k
same_key j k = sym (assoc (j.birth == k.0) (j.file == k.1) (j.copy == k.2))

pub same_job-flip : (a b : Job) → same_job a b ≡ same_job b a
same_job-flip a b =
    ap (λ (t : Bool). t && ((a.file == b.file) && (a.copy == b.copy))) (eq_flip a.birth b.birth)
    ∙ ap (λ (t : Bool). (b.birth == a.birth) && (t && (a.copy == b.copy))) (eq_flip a.file b.file)
    ∙ ap (λ (t : Bool). (b.birth == a.birth) && ((b.file == a.file) && t)) (eq_flip a.copy b.copy)

pub claimer_in-map : (j : Job) (es : List (JobKey × ℕ)) → claimer_in (map claim_row es) j ≡ lookup (is_key (key_of j)) es
claimer_in-map j es =
    found (λ (r : ClaimedJob). same_job r.job j) (is_key (key_of j)) claim_row (option_map (λ (r : ClaimedJob). r.mount)) (λ (o : Option ℕ). o)
    (λ e. same_job-flip (job_at e.0) j ∙ same_key j e.0) refl (λ e t. refl) es

parts : (a b : Bool) → (a && b) ≡ true → (a ≡ true) × (b ≡ true)
parts true b e = (refl, e)
parts false b e = absurd (cc)

-- keys that are this one are equal to it
pub key_is : (a k : JobKey) → is_key a k ≡ true → a ≡ k
key_is a k e =
    (let ab = parts ((a.0 == k.0) && (a.1 == k.1)) (a.2 == k.2) e in
    let cd = parts (a.0 == k.0) (a.1 == k.1) ab.0 in
    joined a.0 a.1 a.2 k.0 k.1 k.2 (eqb-true _ _ cd.0) (eqb-true _ _ cd.1) (eqb-true _ _ ab.1))
  where
    joined : (x y z u v w : ℕ) → x ≡ u → y ≡ v → z ≡ w → (let l : JobKey = (x, y, z) in let r : JobKey = (u, v, w) in l ≡ r)
    joined x y z u v w e f g = ap (λ (n : ℕ). let l : JobKey = (n, y, z) in l) e ∙ ap (λ (n : ℕ). let l : JobKey = (u, n, z) in l) f ∙ ap (λ (n : ℕ). let l : JobKey = (u, v, n) in l) g

pub charges_in-map : (charges : List ((JobKey × ℕ) × Charge)) (j : Job) (es : List (JobKey × ℕ)) → book.charges_in (map (charge_row charges) es) j ≡ charges_in (charge_at charges (key_of j)) (unwrap_or (lookup (is_key (key_of j)) es) 0)
charges_in-map charges j es =
    found (λ (r : ChargedJob). same_job r.job j) (is_key (key_of j)) (charge_row charges) charges_or_none (λ (o : Option ℕ). charges_in (charge_at charges (key_of j)) (unwrap_or o 0))
    (λ e. same_job-flip (job_at e.0) j ∙ same_key j e.0) refl (λ e t. ap (λ (k : JobKey). charges_in (charge_at charges k) e.1) (sym (key_is (key_of j) e.0 t))) es

pub has_job-map : (j : Job) (es : List (JobKey × ℕ)) → has_job j (map named_row es) ≡ is_some (lookup (is_key (key_of j)) es)
has_job-map j [] = refl
has_job-map j (e ∷ es) = either (same_job j (job_at e.0)) (is_key (key_of j) e.0) e.1 (lookup (is_key (key_of j)) es) (same_key j e.0) (has_job-map j es)
  where
    either : (a b : Bool) (m : ℕ) (o : Option ℕ) → a ≡ b → has_job j (map named_row es) ≡ is_some o → (a || has_job j (map named_row es)) ≡ is_some (if b then Some m else o)
    either true true m o e rest = refl
    either false false m o e rest = rest
    either true false m o e rest = absurd (cc)
    either false true m o e rest = absurd (cc)

-- ---- one job, one copy, one file

or_false : (b : Bool) → (b || false) ≡ b
or_false true = refl
or_false false = refl

pub has_job-one : (job j : Job) → has_job j (job ∷ []) ≡ is_key (key_of job) (key_of j)
has_job-one job j = or_false (same_job j job) ∙ same_job-flip j job ∙ same_key job (key_of j)

pub has_copy-one : (job : Job) (f c : ℕ) → has_copy f c (job ∷ []) ≡ is_pair job.file job.copy (f, c)
has_copy-one job f c = or_false ((job.file == f) && (job.copy == c))

pub has_number-one : (file f : ℕ) → has_number f (file ∷ []) ≡ (file == f)
has_number-one file f = or_false (f == file) ∙ eq_flip f file

-- ---- lists by place

pub charges_in-more : (look : ℕ → Charge) (n : ℕ) → charges_in look (n + 1) ≡ charges_in look n ++ look n ∷ []
charges_in-more look n = rw add-one refl

pub length-charges_in : (look : ℕ → Charge) (n : ℕ) → length (charges_in look n) ≡ n
length-charges_in look zero = refl
length-charges_in look (suc n) = length-append (charges_in look n) (look n ∷ []) ∙ (let e : length (charges_in look n) ≡ n = length-charges_in look n in omega arith)

pub charges_same : (old new : ℕ → Charge) (n : ℕ) → ((i : ℕ) → i < n → new i ≡ old i) → charges_in new n ≡ charges_in old n
charges_same old new zero same = refl
charges_same old new (suc n) same = ap (λ (xs : List Charge). xs ++ new n ∷ []) (charges_same old new n (λ i low. same i (omega arith))) ∙ ap (λ (x : Charge). charges_in old n ++ x ∷ []) (same n (omega arith))

pub waiting_in-more : (look : ℕ → Option ℕ) (n : ℕ) → waiting_in look (n + 1) ≡ waiting_in look n ++ listed (look n)
waiting_in-more look n = rw add-one refl

pub waiting_same : (old new : ℕ → Option ℕ) (n : ℕ) → ((i : ℕ) → i < n → new i ≡ old i) → waiting_in new n ≡ waiting_in old n
waiting_same old new zero same = refl
waiting_same old new (suc n) same = ap (λ (xs : List ℕ). xs ++ listed (new n)) (waiting_same old new n (λ i low. same i (omega arith))) ∙ ap (λ (x : Option ℕ). waiting_in old n ++ listed x) (same n (omega arith))

filter-append : (p : ℕ → Bool) (xs ys : List ℕ) → filter p (xs ++ ys) ≡ filter p xs ++ filter p ys
filter-append p [] ys = refl
filter-append p (x ∷ xs) ys = elim (p x) as (λ b. (if b then x ∷ filter p (xs ++ ys) else filter p (xs ++ ys)) ≡ (if b then x ∷ filter p xs else filter p xs) ++ filter p ys) [ true ↦ ap (λ (zs : List ℕ). x ∷ zs) (filter-append p xs ys) | false ↦ filter-append p xs ys ]

listed-left_out : (id : ℕ) (o : Option ℕ) → listed (left_out id o) ≡ filter (λ s. not (s == id)) (listed o)
listed-left_out id None = refl
listed-left_out id (Some n) = elim (n == id) as (λ b. listed (if b then None else Some n) ≡ (if not b then n ∷ [] else [])) [ true ↦ refl | false ↦ refl ]

pub waiting_left : (id : ℕ) (old new : ℕ → Option ℕ) (n : ℕ) → ((i : ℕ) → i < n → new i ≡ left_out id (old i)) → waiting_in new n ≡ filter (λ s. not (s == id)) (waiting_in old n)
waiting_left id old new zero same = refl
waiting_left id old new (suc n) same =
    ap (λ (xs : List ℕ). xs ++ listed (new n)) (waiting_left id old new n (λ i low. same i (omega arith)))
    ∙ ap (λ (x : Option ℕ). filter (λ s. not (s == id)) (waiting_in old n) ++ listed x) (same n (omega arith))
    ∙ ap (λ (xs : List ℕ). filter (λ s. not (s == id)) (waiting_in old n) ++ xs) (listed-left_out id (old n))
    ∙ sym (filter-append (λ s. not (s == id)) (waiting_in old n) (listed (old n)))

pub length-listed : (o : Option ℕ) → length (listed o) ≡ (if is_some o then 1 else 0)
length-listed None = refl
length-listed (Some n) = refl

pub waiting_grows : (look : ℕ → Option ℕ) (n m : ℕ) → n ≤ m → length (waiting_in look n) ≤ length (waiting_in look m)
waiting_grows look n zero low = (let e : n ≡ 0 = omega arith in subst (λ (k : ℕ). length (waiting_in look k) ≤ 0) (sym e) (omega arith))
waiting_grows look n (suc m) low =
    elim (le_cases n m) [
      | inl small ↦ (let rest : length (waiting_in look n) ≤ length (waiting_in look m) = waiting_grows look n m small in omega (arith, length-append (waiting_in look m) (listed (look m))))
      | inr big ↦ (let e : n ≡ suc m = omega arith in subst (λ (k : ℕ). length (waiting_in look k) ≤ length (waiting_in look (suc m))) (sym e) (omega arith))
    ]
  where
    le_cases : (n m : ℕ) → (n ≤ m) ⊎ (m < n)
    le_cases n m = by (nat_le n m) refl
      where
        by : (b : Bool) → nat_le n m ≡ b → (n ≤ m) ⊎ (m < n)
        by true e = inl (grind (arith, nat_tests))
        by false e = inr (grind (arith, nat_tests))

-- a charge by its place
pub slice_get-charges_in : (look : ℕ → Charge) (n i : ℕ) → i < n → slice_get (charges_in look n) i ≡ Some (look i)
slice_get-charges_in look zero i low = absurd (omega arith)
slice_get-charges_in look (suc n) i low = by (i == n) refl (slice_get-charges_in look n i)
  where
    front : (xs : List Charge) (x : Charge) (i : ℕ) → i < length xs → slice_get (xs ++ x ∷ []) i ≡ slice_get xs i
    front [] x i low = absurd (omega arith)
    front (y ∷ xs) x zero low = refl
    front (y ∷ xs) x (suc i) low = front xs x i (omega arith)

    back : (xs : List Charge) (x : Charge) (i : ℕ) → i ≡ length xs → slice_get (xs ++ x ∷ []) i ≡ Some x
    back [] x zero e = refl
    back [] x (suc i) e = absurd (omega arith)
    back (y ∷ xs) x zero e = absurd (omega arith)
    back (y ∷ xs) x (suc i) e = back xs x i (omega arith)

    by : (b : Bool) → (i == n) ≡ b → (i < n → slice_get (charges_in look n) i ≡ Some (look i)) → slice_get (charges_in look n ++ look n ∷ []) i ≡ Some (look i)
    by true e more = (let same : i ≡ n = eqb-true i n e in let at : i ≡ length (charges_in look n) = same ∙ sym (length-charges_in look n) in back (charges_in look n) (look n) i at ∙ ap (λ (k : ℕ). Some (look k)) (sym same))
    by false e more =
        (let length_is : length (charges_in look n) ≡ n = length-charges_in look n in
        let small : i < n = below e in
        front (charges_in look n) (look n) i (omega arith) ∙ more small)
      where
        clash : (i == n) ≡ false → i ≡ n → ⊥
        clash e same = (let hit : (i == n) ≡ true = eq-eqb i n same in cc)

        below : (i == n) ≡ false → i < n
        below e = (let other : i ≢ n = clash e in omega arith)

-- one that waits more
pub waiting_in-some : (look : ℕ → Option ℕ) (n owner : ℕ) → look n ≡ Some owner → length (waiting_in look (n + 1)) ≡ length (waiting_in look n) + 1
waiting_in-some look n owner e =
    ap (λ (xs : List ℕ). length xs) (waiting_in-more look n ∙ ap (λ (o : Option ℕ). waiting_in look n ++ listed o) e) ∙ length-append (waiting_in look n) (owner ∷ [])
