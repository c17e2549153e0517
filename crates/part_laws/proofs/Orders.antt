-- Lists of jobs in order: what they have tells them.
use Rattle.std.proofs.Common.{◌≡◌, ◌∙◌, ◌<◌, ◌⊎◌, inl, inr, List, [], ◌∷◌, ◌++◌, Bool, true, false, ◌&&◌, ◌||◌, refl, sym, ap, subst, arith}
use Rattle.std.specs.Prelude.{if◌then◌else◌, ◌==◌, nat_lt, filter}
use Rattle.std.proofs.lemmas.Bool.{and_parts, eqb-true, ltb-true}
use Rattle.cta_model.specs.declared.asks.Job.{Job}
use Rattle.cta_model.specs.Mounts.{same_job, has_job}
use Rattle.cta_laws.proofs.Tests.{bool_cases, or_left, or_cases}
use Rattle.cta_laws.proofs.OnceLaw.{same_job_eq}
use Rattle.cta_laws.proofs.JobLists.{job_self}
use Rattle.cta_laws.proofs.Claims.{AllOf}
use Rattle.part_model.specs.Order.{ComesBefore, InOrder, goes_before, insert_job}

-- ---- the order

pub before_self : (j : Job) → goes_before j j ≡ true → ⊥
before_self j e = grind arith

pub before_both : (a b : Job) → goes_before a b ≡ true → goes_before b a ≡ true → ⊥
before_both a b e f = grind arith

First : Job → Job → Type 0
First a b = (a.birth < b.birth) ⊎ (((a.birth ≡ b.birth) × (a.file < b.file)) ⊎ ((a.birth ≡ b.birth) × (a.file ≡ b.file) × (a.copy < b.copy)))

by_birth : (a b : Job) → a.birth < b.birth → goes_before a b ≡ true
by_birth a b p = grind arith

by_file : (a b : Job) → a.birth ≡ b.birth → a.file < b.file → goes_before a b ≡ true
by_file a b p q = grind arith

by_copy : (a b : Job) → a.birth ≡ b.birth → a.file ≡ b.file → a.copy < b.copy → goes_before a b ≡ true
by_copy a b p q r = grind arith

says : (a b : Job) → goes_before a b ≡ true → First a b
unfolding First
says a b e =
    elim (or_cases (nat_lt a.birth b.birth) _ e) [
      | inl x ↦ inl (ltb-true a.birth b.birth x)
      | inr y ↦
          (let p : (a.birth == b.birth ≡ true) × ((nat_lt a.file b.file || (a.file == b.file && nat_lt a.copy b.copy)) ≡ true) = and_parts _ _ y in
          elim (or_cases (nat_lt a.file b.file) _ p.1) [
            | inl z ↦ inr (inl (eqb-true _ _ p.0, ltb-true a.file b.file z))
            | inr w ↦ (let q : (a.file == b.file ≡ true) × (nat_lt a.copy b.copy ≡ true) = and_parts _ _ w in inr (inr (eqb-true _ _ p.0, eqb-true _ _ q.0, ltb-true a.copy b.copy q.1)))
          ])
    ]

pub before_more : (a b c : Job) → goes_before a b ≡ true → goes_before b c ≡ true → goes_before a c ≡ true
unfolding First
before_more a b c e f =
    elim (says a b e) [
      | inl x ↦ by_birth a c (elim (says b c f) [ inl p ↦ omega arith | inr q ↦ elim q [ inl r ↦ (let s : b.birth ≡ c.birth = r.0 in omega arith) | inr r ↦ (let s : b.birth ≡ c.birth = r.0 in omega arith) ] ])
      | inr y ↦ elim y [
        | inl x ↦ (let x0 : a.birth ≡ b.birth = x.0 in let x1 : a.file < b.file = x.1 in elim (says b c f) [
          | inl p ↦ by_birth a c (omega arith)
          | inr q ↦ elim q [
            | inl r ↦ (let s : b.birth ≡ c.birth = r.0 in let u : b.file < c.file = r.1 in by_file a c (x0 ∙ s) (omega arith))
            | inr r ↦ (let s : b.birth ≡ c.birth = r.0 in let u : b.file ≡ c.file = r.1 in by_file a c (x0 ∙ s) (omega arith))
          ]
        ])
        | inr x ↦ (let x0 : a.birth ≡ b.birth = x.0 in let x1 : a.file ≡ b.file = x.1 in let x2 : a.copy < b.copy = x.2 in elim (says b c f) [
          | inl p ↦ by_birth a c (omega arith)
          | inr q ↦ elim q [
            | inl r ↦ (let s : b.birth ≡ c.birth = r.0 in let u : b.file < c.file = r.1 in by_file a c (x0 ∙ s) (omega arith))
            | inr r ↦ (let s : b.birth ≡ c.birth = r.0 in let u : b.file ≡ c.file = r.1 in let v : b.copy < c.copy = r.2 in by_copy a c (x0 ∙ s) (x1 ∙ u) (omega arith))
          ]
        ])
      ]
    ]

pub before_or : (a b : Job) → same_job a b ≡ false → goes_before a b ≡ false → goes_before b a ≡ true
before_or a b e f = grind arith

pub same_flip : (a b : Job) → same_job a b ≡ false → same_job b a ≡ false
same_flip a b d =
    elim (bool_cases (same_job b a))
    [ inl hit ↦ (let bad : same_job a b ≡ true = subst (λ (k : Job). same_job a k ≡ true) (sym (same_job_eq b a hit)) (job_self a) in absurd (cc)) | inr miss ↦ miss ]

-- ---- what comes before others

pub comes_in : (j : Job) (ks : List Job) → ComesBefore j ks → (i : Job) → has_job i ks ≡ true → goes_before j i ≡ true
comes_in j [] c i e = absurd (cc)
comes_in j (k ∷ ks) c i e =
    elim (or_cases (same_job i k) (has_job i ks) e)
    [ inl hit ↦ subst (λ (x : Job). goes_before j x ≡ true) (sym (same_job_eq i k hit)) c.0 | inr rest ↦ comes_in j ks c.1 i rest ]

pub not_after : (j : Job) (ks : List Job) → ComesBefore j ks → has_job j ks ≡ false
not_after j ks c = elim (bool_cases (has_job j ks)) [ inl hit ↦ absurd (before_self j (comes_in j ks c j hit)) | inr miss ↦ miss ]

pub comes_more : (j k : Job) (ks : List Job) → goes_before j k ≡ true → ComesBefore k ks → ComesBefore j ks
comes_more j k [] first c = tt
comes_more j k (x ∷ ks) first c = (before_more j k x first c.0, comes_more j k ks first c.1)

pub comes_append : (j : Job) (xs ys : List Job) → ComesBefore j xs → ComesBefore j ys → ComesBefore j (xs ++ ys)
comes_append j [] ys a b = b
comes_append j (x ∷ xs) ys a b = (a.0, comes_append j xs ys a.1 b)

pub comes_filter : (test : Job → Bool) (j : Job) (ks : List Job) → ComesBefore j ks → ComesBefore j (filter test ks)
comes_filter test j [] c = tt
comes_filter test j (k ∷ ks) c = elim (test k) as (λ b. ComesBefore j (if b then k ∷ filter test ks else filter test ks)) [ true ↦ (c.0, comes_filter test j ks c.1) | false ↦ comes_filter test j ks c.1 ]

-- ---- lists in order

pub order_filter : (test : Job → Bool) (q : List Job) → InOrder q → InOrder (filter test q)
order_filter test [] o = tt
order_filter test (k ∷ ks) o = elim (test k) as (λ b. InOrder (if b then k ∷ filter test ks else filter test ks)) [ true ↦ (comes_filter test k ks o.0, order_filter test ks o.1) | false ↦ order_filter test ks o.1 ]

pub order_append : (xs ys : List Job) → InOrder xs → InOrder ys → AllOf (λ x. ComesBefore x ys) xs → InOrder (xs ++ ys)
order_append [] ys a b between = b
order_append (x ∷ xs) ys a b between = (comes_append x xs ys a.0 between.0, order_append xs ys a.1 b between.1)

pub comes_all : (Q : Job → Type 0) (x : Job) (ys : List Job) → AllOf Q ys → ((y : Job) → Q y → goes_before x y ≡ true) → ComesBefore x ys
comes_all Q x [] all f = tt
comes_all Q x (y ∷ ys) all f = (f y all.0, comes_all Q x ys all.1 f)

pub between : (P Q : Job → Type 0) (xs ys : List Job) → AllOf P xs → AllOf Q ys → ((x y : Job) → P x → Q y → goes_before x y ≡ true) → AllOf (λ x. ComesBefore x ys) xs
between P Q [] ys a b f = tt
between P Q (x ∷ xs) ys a b f = (comes_all Q x ys b (λ y q. f x y a.0 q), between P Q xs ys a.1 b f)

-- ---- two lists in order that have the same are the same

tail_same : (x : Job) (xs ys : List Job) → ComesBefore x xs → ComesBefore x ys → ((j : Job) → has_job j (x ∷ xs) ≡ has_job j (x ∷ ys)) → (j : Job) → has_job j xs ≡ has_job j ys
tail_same x xs ys a b same j =
    elim (bool_cases (same_job j x)) [
      | inl hit ↦
          (let is : j ≡ x = same_job_eq j x hit in
          let p : has_job j xs ≡ false = subst (λ (k : Job). has_job k xs ≡ false) (sym is) (not_after x xs a) in
          let q : has_job j ys ≡ false = subst (λ (k : Job). has_job k ys ≡ false) (sym is) (not_after x ys b) in
          p ∙ sym q)
      | inr miss ↦ (let e : (same_job j x || has_job j xs) ≡ (same_job j x || has_job j ys) = same j in rw miss at e)
    ]

in_tail : (j k : Job) (ks : List Job) → same_job j k ≡ false → has_job j (k ∷ ks) ≡ true → has_job j ks ≡ true
in_tail j k ks d e = rw d at e

first_same : (x y : Job) (xs ys : List Job) → ComesBefore x xs → ComesBefore y ys → ((j : Job) → has_job j (x ∷ xs) ≡ has_job j (y ∷ ys)) → x ≡ y
first_same x y xs ys a b same =
    elim (bool_cases (same_job x y)) [
      | inl hit ↦ same_job_eq x y hit
      | inr miss ↦
          (let p : has_job x ys ≡ true = in_tail x y ys miss (sym (same x) ∙ or_left (same_job x x) (has_job x xs) (job_self x)) in
          let q : has_job y xs ≡ true = in_tail y x xs (same_flip x y miss) (same y ∙ or_left (same_job y y) (has_job y ys) (job_self y)) in
          absurd (before_both x y (comes_in x xs a y q) (comes_in y ys b x p)))
    ]

none_has : (y : Job) (ys : List Job) → false ≡ has_job y (y ∷ ys) → ⊥
none_has y ys e = (let there : has_job y (y ∷ ys) ≡ true = or_left (same_job y y) (has_job y ys) (job_self y) in let bad : false ≡ true = e ∙ there in absurd (cc))

pub one_order : (xs ys : List Job) → InOrder xs → InOrder ys → ((j : Job) → has_job j xs ≡ has_job j ys) → xs ≡ ys
one_order [] [] a b same = refl
one_order [] (y ∷ ys) a b same = absurd (none_has y ys (same y))
one_order (x ∷ xs) [] a b same = absurd (none_has x xs (sym (same x)))
one_order (x ∷ xs) (y ∷ ys) a b same =
    let heads : x ≡ y = first_same x y xs ys a.0 b.0 same in
    let at : (j : Job) → has_job j (x ∷ xs) ≡ has_job j (x ∷ ys) = subst (λ (k : Job). (j : Job) → has_job j (x ∷ xs) ≡ has_job j (k ∷ ys)) (sym heads) same in
    let later : ComesBefore x ys = subst (λ (k : Job). ComesBefore k ys) (sym heads) b.0 in
    let tails : xs ≡ ys = one_order xs ys a.1 b.1 (tail_same x xs ys a.0 later at) in
    ap (λ (zs : List Job). x ∷ zs) tails ∙ ap (λ (k : Job). k ∷ ys) heads

-- ---- what a list has after an edit

pub or_swap : (a b c : Bool) → (a || (b || c)) ≡ (b || (a || c))
or_swap true true c = refl
or_swap true false c = refl
or_swap false b c = refl

pub has_insert : (i j : Job) (q : List Job) → has_job i (insert_job j q) ≡ (same_job i j || has_job i q)
has_insert i j [] = refl
has_insert i j (k ∷ ks) =
    elim (goes_before j k) as (λ b. has_job i (if b then j ∷ k ∷ ks else k ∷ insert_job j ks) ≡ (same_job i j || (same_job i k || has_job i ks)))
    [ true ↦ refl | false ↦ rw (has_insert i j ks) (or_swap (same_job i k) (same_job i j) (has_job i ks)) ]

comes_insert : (k j : Job) (ks : List Job) → goes_before k j ≡ true → ComesBefore k ks → ComesBefore k (insert_job j ks)
comes_insert k j [] e c = (e, tt)
comes_insert k j (x ∷ ks) e c = elim (goes_before j x) as (λ b. ComesBefore k (if b then j ∷ x ∷ ks else x ∷ insert_job j ks)) [ true ↦ (e, c) | false ↦ (c.0, comes_insert k j ks e c.1) ]

pub not_either : (a b : Bool) → (a || b) ≡ false → (a ≡ false) × (b ≡ false)
not_either true b e = absurd (cc)
not_either false b e = (refl, e)

pub order_insert : (j : Job) (q : List Job) → InOrder q → has_job j q ≡ false → InOrder (insert_job j q)
order_insert j [] o d = (tt, tt)
order_insert j (k ∷ ks) o d =
    let other : (same_job j k ≡ false) × (has_job j ks ≡ false) = not_either (same_job j k) (has_job j ks) d in
    elim (bool_cases (goes_before j k)) [
      | inl first ↦ rw first ((first, comes_more j k ks first o.0), o)
      | inr later ↦ rw later (comes_insert k j ks (before_or j k other.0 later) o.0, order_insert j ks o.1 other.1)
    ]

and_none : (a b : Bool) → b ≡ false → (a && b) ≡ false
and_none true b e = e
and_none false b e = refl

pub has_filter : (test : Job → Bool) (i : Job) (q : List Job) → has_job i (filter test q) ≡ (has_job i q && test i)
has_filter test i [] = refl
has_filter test i (k ∷ ks) =
    elim (bool_cases (same_job i k)) [
      | inl hit ↦
          (let is : i ≡ k = same_job_eq i k hit in
          elim (bool_cases (test i)) [
            | inl pass ↦ (let here : test k ≡ true = subst (λ (x : Job). test x ≡ true) is pass in rw (here, hit, pass) refl)
            | inr fail ↦
                (let here : test k ≡ false = subst (λ (x : Job). test x ≡ false) is fail in
                let rest : has_job i (filter test ks) ≡ false = has_filter test i ks ∙ and_none (has_job i ks) (test i) fail in
                rw (here, hit, fail) rest)
          ])
      | inr miss ↦
          elim (bool_cases (test k)) [
            | inl pass ↦ rw (pass, miss) (has_filter test i ks)
            | inr fail ↦ rw (fail, miss) (has_filter test i ks)
          ]
    ]

-- ---- a job that comes last

pub insert_last : (j : Job) (q : List Job) → AllOf (λ k. goes_before k j ≡ true) q → insert_job j q ≡ q ++ j ∷ []
insert_last j [] all = refl
insert_last j (k ∷ q) all =
    elim (bool_cases (goes_before j k))
    [ inl first ↦ absurd (before_both j k first all.0) | inr later ↦ rw later (ap (λ (ks : List Job). k ∷ ks) (insert_last j q all.1)) ]
