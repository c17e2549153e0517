-- The jobs of one birth and one file for the copies of a range that pass a test.
use Rattle.std.proofs.Common.{◌≡◌, ◌∙◌, ℕ, zero, suc, ◌+◌, ◌≤◌, ◌<◌, List, [], ◌∷◌, Bool, true, false, ◌&&◌, refl, sym, ap, subst, arith}
use Rattle.std.specs.Prelude.{if◌then◌else◌, ◌==◌, filter, map, nat_le, nat_lt}
use Rattle.std.specs.List.{list_any, range_with_len}
use Rattle.std.proofs.lemmas.Bool.{and_from, and_parts, eqb-true, eq-eqb, leb-true, ltb-true, le-leb, lt-ltb}
use Rattle.cta_model.specs.declared.asks.Job.{Job}
use Rattle.cta_model.specs.Mounts.{has_copy, job_of}
use Rattle.cta_laws.proofs.Bools.{same_bool}
use Rattle.cta_laws.proofs.Claims.{AllOf}
use Rattle.cta_laws.proofs.Ranges.{any_filter, any_in_range, any_map, some_in_range}
use Rattle.part_model.specs.Order.{InOrder}
use Rattle.part_laws.proofs.Born.{copies_order}
use Rattle.part_laws.proofs.Orders.{order_filter}

-- the jobs of the copies of a range that pass a test
abbrev pub some_copies : (ℕ → Bool) → ℕ → ℕ → ℕ → ℕ → List Job
some_copies test b f a n = map (job_of b f) (filter test (range_with_len a n))

-- one of them: of this birth and file, and of a copy from a that passes the test
abbrev pub IsSomeCopy : (ℕ → Bool) → ℕ → ℕ → ℕ → Job → Type 0
IsSomeCopy test b f a j = (j.birth ≡ b) × (j.file ≡ f) × (a ≤ j.copy) × (test j.copy ≡ true)

of_filter : (test : ℕ → Bool) (b f : ℕ) (cs : List ℕ) → map (job_of b f) (filter test cs) ≡ filter (λ (j : Job). test j.copy) (map (job_of b f) cs)
of_filter test b f [] = refl
of_filter test b f (c ∷ cs) =
    elim (test c) as (λ t. map (job_of b f) (if t then c ∷ filter test cs else filter test cs) ≡ (if t then job_of b f c ∷ filter (λ (j : Job). test j.copy) (map (job_of b f) cs) else filter (λ (j : Job). test j.copy) (map (job_of b f) cs)))
    [ true ↦ ap (λ (js : List Job). job_of b f c ∷ js) (of_filter test b f cs) | false ↦ of_filter test b f cs ]

pub some_order : (test : ℕ → Bool) (b f a n : ℕ) → InOrder (some_copies test b f a n)
some_order test b f a n =
    subst InOrder (sym (of_filter test b f (range_with_len a n))) (order_filter (λ (j : Job). test j.copy) (map (job_of b f) (range_with_len a n)) (copies_order b f a n))

listed_all : (test : ℕ → Bool) (b f a : ℕ) (cs : List ℕ) → AllOf (λ c. a ≤ c) cs → AllOf (IsSomeCopy test b f a) (map (job_of b f) (filter test cs))
listed_all test b f a [] low = tt
listed_all test b f a (c ∷ cs) low =
    elim (test c) as (λ t. test c ≡ t → AllOf (IsSomeCopy test b f a) (map (job_of b f) (if t then c ∷ filter test cs else filter test cs)))
    [ true ↦ λ hit. ((refl, refl, low.0, hit), listed_all test b f a cs low.1) | false ↦ λ miss. listed_all test b f a cs low.1 ] refl

range_low : (a k n : ℕ) → a ≤ k → AllOf (λ c. a ≤ c) (range_with_len k n)
range_low a k zero low = tt
range_low a k (suc n) low = (low, range_low a (k + 1) n (omega arith))

pub some_all : (test : ℕ → Bool) (b f a n : ℕ) → AllOf (IsSomeCopy test b f a) (some_copies test b f a n)
some_all test b f a n = listed_all test b f a (range_with_len a n) (range_low a a n (omega arith))

-- a copy of a file is among them where it is of this file, passes the test, and is in the range
pub some_has : (test : ℕ → Bool) (b f g c a n : ℕ) → has_copy g c (some_copies test b f a n) ≡ ((f == g) && (test c && (nat_le a c && nat_lt c (a + n))))
some_has test b f g c a n =
    any_map (λ (j : Job). j.file == g && j.copy == c) (job_of b f) (filter test (range_with_len a n))
    ∙ any_filter (λ x. f == g && x == c) test (range_with_len a n)
    ∙ same_bool (list_any (λ x. test x && (f == g && x == c)) (range_with_len a n)) ((f == g) && (test c && (nat_le a c && nat_lt c (a + n)))) (λ e. found e) (λ e. there e)
  where
    found : list_any (λ x. test x && (f == g && x == c)) (range_with_len a n) ≡ true → ((f == g) && (test c && (nat_le a c && nat_lt c (a + n)))) ≡ true
    found e =
        (let x = some_in_range (λ x. test x && (f == g && x == c)) a n e in
        let parts : (test x.0 ≡ true) × ((f == g && x.0 == c) ≡ true) = and_parts _ _ x.3 in
        let both : (f == g ≡ true) × (x.0 == c ≡ true) = and_parts _ _ parts.1 in
        let same : x.0 ≡ c = eqb-true x.0 c both.1 in
        and_from _ _ both.0 (and_from _ _ (subst (λ (k : ℕ). test k ≡ true) same parts.0)
        (and_from _ _ (le-leb a c (subst (λ (k : ℕ). a ≤ k) same x.1)) (lt-ltb c (a + n) (subst (λ (k : ℕ). k < a + n) same x.2)))))

    there : ((f == g) && (test c && (nat_le a c && nat_lt c (a + n)))) ≡ true → list_any (λ x. test x && (f == g && x == c)) (range_with_len a n) ≡ true
    there e =
        (let p : (f == g ≡ true) × ((test c && (nat_le a c && nat_lt c (a + n))) ≡ true) = and_parts _ _ e in
        let q : (test c ≡ true) × ((nat_le a c && nat_lt c (a + n)) ≡ true) = and_parts _ _ p.1 in
        let r : (nat_le a c ≡ true) × (nat_lt c (a + n) ≡ true) = and_parts _ _ q.1 in
        any_in_range (λ x. test x && (f == g && x == c)) a n c (leb-true a c r.0) (ltb-true c (a + n) r.1) (and_from _ _ q.0 (and_from _ _ p.0 (eq-eqb c c refl))))
