-- Lemmas of ranges of numbers, and of lists that are made of other lists.
use Rattle.std.proofs.Common.{◌≡◌, ℕ, zero, suc, ◌+◌, ◌≤◌, ◌<◌, inl, inr, List, [], ◌∷◌, Bool, true, false, ◌&&◌, ◌||◌, refl, ap, subst, arith, ◌∙◌}
use Rattle.std.specs.Prelude.{Option, Some, None, map, filter}
use Rattle.std.specs.List.{list_any, list_all, filter_map, flat_map, range_with_len, cons_option}
use Rattle.std.proofs.lemmas.Bool.{and_parts, and_from, cases_lt}
use Rattle.std.proofs.lemmas.List.Folds.{list_any-append}
use Rattle.cta_laws.proofs.Tests.{bool_cases, or_left, or_right, or_cases}
use Rattle.cta_laws.proofs.Claims.{AllOf, all_append}

-- ---- ranges of numbers

pub in_range_all : (p : ℕ → Bool) (a n : ℕ) → list_all p (range_with_len a n) ≡ true → (c : ℕ) → a ≤ c → c < a + n → p c ≡ true
in_range_all p a zero all c low high = absurd (omega arith)
in_range_all p a (suc n) all c low high =
    let parts : (p a ≡ true) × (list_all p (range_with_len (a + 1) n) ≡ true) = and_parts _ _ all in
    elim (cases_lt a c) [
      | inl more ↦ in_range_all p (a + 1) n parts.1 c (omega arith) (omega arith)
      | inr less ↦ (let same : a ≡ c = omega arith in subst (λ (k : ℕ). p k ≡ true) same parts.0)
    ]

pub all_in_range : (p : ℕ → Bool) (a n : ℕ) → ((c : ℕ) → a ≤ c → c < a + n → p c ≡ true) → list_all p (range_with_len a n) ≡ true
all_in_range p a zero each = refl
all_in_range p a (suc n) each = and_from _ _ (each a (omega arith) (omega arith)) (all_in_range p (a + 1) n (λ c low high. each c (omega arith) (omega arith)))

pub any_in_range : (p : ℕ → Bool) (a n c : ℕ) → a ≤ c → c < a + n → p c ≡ true → list_any p (range_with_len a n) ≡ true
any_in_range p a zero c low high e = absurd (omega arith)
any_in_range p a (suc n) c low high e =
    elim (cases_lt a c) [
      | inl more ↦ or_right (p a) _ (any_in_range p (a + 1) n c (omega arith) (omega arith) e)
      | inr less ↦ (let same : c ≡ a = omega arith in or_left (p a) _ (subst (λ (k : ℕ). p k ≡ true) same e))
    ]

pub some_in_range : (p : ℕ → Bool) (a n : ℕ) → list_any p (range_with_len a n) ≡ true → (c : ℕ) × (a ≤ c) × (c < a + n) × (p c ≡ true)
some_in_range p a zero e = absurd (cc)
some_in_range p a (suc n) e =
    elim (or_cases (p a) (list_any p (range_with_len (a + 1) n)) e) [
      | inl here ↦ (a, omega arith, omega arith, here)
      | inr more ↦ (let c = some_in_range p (a + 1) n more in (c.0, omega (arith, c.1), omega (arith, c.2), c.3))
    ]

pub range_all : (P : ℕ → Type 0) (a n : ℕ) → ((c : ℕ) → a ≤ c → c < a + n → P c) → AllOf P (range_with_len a n)
range_all P a zero each = tt
range_all P a (suc n) each = (each a (omega arith) (omega arith), range_all P (a + 1) n (λ c low high. each c (omega arith) (omega arith)))

-- ---- lists that are made of other lists

-- whether there is something that passes the test
abbrev pub is_some_where : {A : Type 0} → (A → Bool) → Option A → Bool
is_some_where test None = false
is_some_where test (Some x) = test x

pub any_filter_map : {A B : Type 0} (test : B → Bool) (g : A → Option B) (xs : List A) → list_any test (filter_map g xs) ≡ list_any (λ x. is_some_where test (g x)) xs
any_filter_map {B = B} test g [] = refl
any_filter_map {B = B} test g (x ∷ xs) = by (g x) ∙ ap (λ (b : Bool). is_some_where test (g x) || b) (any_filter_map test g xs)
  where
    by : (o : Option B) → list_any test (cons_option o (filter_map g xs)) ≡ (is_some_where test o || list_any test (filter_map g xs))
    by None = refl
    by (Some y) = refl

all_option : {B : Type 0} (P : B → Type 0) (o : Option B) (ys : List B) → ((y : B) → o ≡ Some y → P y) → AllOf P ys → AllOf P (cons_option o ys)
all_option P None ys here rest = rest
all_option P (Some y) ys here rest = (here y refl, rest)

pub all_filter_map : {A B : Type 0} (P : B → Type 0) (g : A → Option B) (xs : List A) → AllOf (λ x. (y : B) → g x ≡ Some y → P y) xs → AllOf P (filter_map g xs)
all_filter_map P g [] all = tt
all_filter_map P g (x ∷ xs) all = all_option P (g x) (filter_map g xs) all.0 (all_filter_map P g xs all.1)

pub any_flat_map : {A B : Type 0} (test : B → Bool) (g : A → List B) (xs : List A) → list_any test (flat_map g xs) ≡ list_any (λ x. list_any test (g x)) xs
any_flat_map test g [] = refl
any_flat_map test g (x ∷ xs) = list_any-append test (g x) (flat_map g xs) ∙ ap (λ (b : Bool). list_any test (g x) || b) (any_flat_map test g xs)

pub all_flat_map : {A B : Type 0} (P : B → Type 0) (g : A → List B) (xs : List A) → AllOf (λ x. AllOf P (g x)) xs → AllOf P (flat_map g xs)
all_flat_map P g [] all = tt
all_flat_map P g (x ∷ xs) all = all_append P (g x) (flat_map g xs) all.0 (all_flat_map P g xs all.1)

pub any_map : {A B : Type 0} (test : B → Bool) (g : A → B) (xs : List A) → list_any test (map g xs) ≡ list_any (λ x. test (g x)) xs
any_map test g [] = refl
any_map test g (x ∷ xs) = ap (λ (b : Bool). test (g x) || b) (any_map test g xs)

pub all_map : {A B : Type 0} (P : B → Type 0) (g : A → B) (xs : List A) → AllOf (λ x. P (g x)) xs → AllOf P (map g xs)
all_map P g [] all = tt
all_map P g (x ∷ xs) all = (all.0, all_map P g xs all.1)

pub any_filter : {A : Type 0} (test keep : A → Bool) (xs : List A) → list_any test (filter keep xs) ≡ list_any (λ x. keep x && test x) xs
any_filter test keep [] = refl
any_filter test keep (x ∷ xs) =
    elim (bool_cases (keep x)) [
      | inl hit ↦ rw hit (ap (λ (b : Bool). test x || b) (any_filter test keep xs))
      | inr miss ↦ rw miss (any_filter test keep xs)
    ]

-- ---- what a list has that passes a test

pub some_any : {A : Type 0} (test : A → Bool) (xs : List A) → list_any test xs ≡ true → (x : A) × (test x ≡ true)
some_any test [] e = absurd (cc)
some_any test (x ∷ xs) e = elim (or_cases (test x) (list_any test xs) e) [ inl hit ↦ (x, hit) | inr more ↦ some_any test xs more ]

pub any_mono : {A : Type 0} (p q : A → Bool) (xs : List A) → ((x : A) → p x ≡ true → q x ≡ true) → list_any p xs ≡ true → list_any q xs ≡ true
any_mono p q [] says e = absurd (cc)
any_mono p q (x ∷ xs) says e = elim (or_cases (p x) (list_any p xs) e) [ inl hit ↦ or_left (q x) _ (says x hit) | inr more ↦ or_right (q x) _ (any_mono p q xs says more) ]

-- ---- the same test or function, said otherwise

pub any_same : {A : Type 0} (p q : A → Bool) (xs : List A) → ((x : A) → p x ≡ q x) → list_any p xs ≡ list_any q xs
any_same p q [] same = refl
any_same p q (x ∷ xs) same = rw (same x, any_same p q xs same) refl

pub filter_map_same : {A B : Type 0} (g k : A → Option B) (xs : List A) → ((x : A) → g x ≡ k x) → filter_map g xs ≡ filter_map k xs
filter_map_same g k [] same = refl
filter_map_same g k (x ∷ xs) same = rw (same x, filter_map_same g k xs same) refl
