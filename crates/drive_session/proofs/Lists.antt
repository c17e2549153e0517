-- Fronts and places of lists.
use Rattle.std.proofs.Common.{◌≡◌, ℕ, ◌+◌, ◌≤◌, ◌<◌, zero, suc, List, [], ◌∷◌, ◌++◌, refl, sym, subst, ap, arith, length, take, drop, map}
use Rattle.std.specs.Prelude.{Option, Some, None, slice_get, get_or}

pub get_take : {A : Type 0} (xs : List A) (n k : ℕ) (x : A) → k < n → slice_get xs k ≡ Some x → slice_get (take n xs) k ≡ Some x
get_take [] n k x low e = absurd (cc)
get_take (y ∷ xs) zero k x low e = absurd (omega (arith, low))
get_take (y ∷ xs) (suc n) zero x low e = e
get_take (y ∷ xs) (suc n) (suc k) x low e = get_take xs n k x (omega (arith, low)) e

pub get_front : {A : Type 0} (xs ys : List A) (k : ℕ) (x : A) → slice_get xs k ≡ Some x → slice_get (xs ++ ys) k ≡ Some x
get_front [] ys k x e = absurd (cc)
get_front (y ∷ xs) ys zero x e = e
get_front (y ∷ xs) ys (suc k) x e = get_front xs ys k x e

pub get_last : {A : Type 0} (xs : List A) (n : ℕ) (y : A) → n ≡ length xs → slice_get (xs ++ y ∷ []) n ≡ Some y
get_last [] n y e = rw e refl
get_last (x ∷ xs) n y e = rw e (get_last xs (length xs) y refl)

some_same : {A : Type 0} {a b : A} → Some a ≡ Some b → a ≡ b
some_same e = cc

take_suc : {A : Type 0} (xs : List A) (n : ℕ) (x : A) → slice_get xs n ≡ Some x → take (suc n) xs ≡ take n xs ++ x ∷ []
take_suc [] n x e = absurd (cc)
take_suc (y ∷ xs) zero x e = ap (λ z. z ∷ []) (some_same e)
take_suc (y ∷ xs) (suc n) x e = ap (λ z. y ∷ z) (take_suc xs n x e)

pub take_next : {A : Type 0} (xs : List A) (n : ℕ) (x : A) → slice_get xs n ≡ Some x → take (n + 1) xs ≡ take n xs ++ x ∷ []
take_next xs n x e = subst (λ (k : ℕ). take k xs ≡ take n xs ++ x ∷ []) (one n) (take_suc xs n x e)
  where
    one : (n : ℕ) → suc n ≡ n + 1
    one n = omega arith

-- the element at a place, of the list and of what is made of it
pub get_map : {A B : Type 0} (f : A → B) (xs : List A) (n : ℕ) (x : A) → n < length xs → x ≡ get_or xs n x → slice_get (map f xs) n ≡ Some (f x)
get_map f [] n x low e = absurd (omega (arith, low))
get_map f (y ∷ xs) zero x low e = ap (λ z. Some (f z)) (sym e)
get_map f (y ∷ xs) (suc n) x low e = get_map f xs n x (omega (arith, low)) e

take_none : {A : Type 0} (n : ℕ) (xs : List A) → xs ≡ [] → take n xs ≡ []
take_none zero xs e = refl
take_none (suc n) [] e = refl
take_none (suc n) (x ∷ xs) e = absurd (cc)

pub take_all : {A : Type 0} (n : ℕ) (xs : List A) → length xs ≤ n → take n xs ≡ xs
take_all n [] le = take_none n [] refl
take_all zero (x ∷ xs) le = absurd (omega (arith, le))
take_all (suc n) (x ∷ xs) le = ap (λ ys. x ∷ ys) (take_all n xs (omega (arith, le)))

pub drop_none : {A : Type 0} (xs : List A) (n : ℕ) → slice_get xs n ≡ None → drop n xs ≡ []
drop_none [] zero e = refl
drop_none [] (suc n) e = refl
drop_none (x ∷ xs) zero e = absurd (cc)
drop_none (x ∷ xs) (suc n) e = drop_none xs n e

pub drop_all : {A : Type 0} (xs : List A) (n : ℕ) → n ≡ length xs → drop n xs ≡ []
drop_all xs n e = rw e (all xs)
  where
    all : {A : Type 0} (xs : List A) → drop (length xs) xs ≡ []
    all [] = refl
    all (x ∷ xs) = all xs

drop_suc : {A : Type 0} (xs : List A) (n : ℕ) (x : A) → slice_get xs n ≡ Some x → drop n xs ≡ x ∷ drop (suc n) xs
drop_suc [] n x e = absurd (cc)
drop_suc (y ∷ xs) zero x e = ap (λ z. z ∷ xs) (some_same e)
drop_suc (y ∷ xs) (suc n) x e = drop_suc xs n x e

one_more : (n : ℕ) → suc n ≡ n + 1
one_more n = omega arith

-- from a place on: the element there, and those behind it
pub drop_some : {A : Type 0} (xs : List A) (n : ℕ) (x : A) → slice_get xs n ≡ Some x → drop n xs ≡ x ∷ drop (n + 1) xs
drop_some xs n x e = subst (λ (k : ℕ). drop n xs ≡ x ∷ drop k xs) (one_more n) (drop_suc xs n x e)

-- the element at a place alone
pub one_of : {A : Type 0} (xs : List A) (n : ℕ) (d : A) → n < length xs → take 1 (drop n xs) ≡ get_or xs n d ∷ []
one_of [] n d low = absurd (omega (arith, low))
one_of (x ∷ xs) zero d low = refl
one_of (x ∷ xs) (suc n) d low = one_of xs n d (omega (arith, low))

-- all but the element at a place
pub others_of : {A : Type 0} (xs : List A) (n : ℕ) → take n xs ++ drop (n + 1) xs ≡ take n xs ++ drop (suc n) xs
others_of xs n = ap (λ (k : ℕ). take n xs ++ drop k xs) (sym (one_more n))

-- the element at a place, alone, of what is made of a list
pub one_map : {A B : Type 0} (f : A → B) (xs : List A) (n : ℕ) (x : A) → slice_get xs n ≡ Some x → take 1 (drop n (map f xs)) ≡ f x ∷ []
one_map f [] n x e = absurd (cc)
one_map f (y ∷ xs) zero x e = ap (λ z. f z ∷ []) (some_same e)
one_map f (y ∷ xs) (suc n) x e = one_map f xs n x e

pub pair_same : {A B : Type 0} (a b : A) (c d : B) → a ≡ b → c ≡ d → ◌≡◌ {A = Option (A × B)} (Some (a, c)) (Some (b, d))
pair_same a b c d e f = λ i. Some (e i, f i)
