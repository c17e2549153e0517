-- Items of lists at their places.
use Rattle.std.proofs.Common.{◌≡◌, ◌∙◌, ◌≤◌, ◌<◌, ◌+◌, ◌++◌, ◌||◌, ℕ, zero, suc, List, [], ◌∷◌, length, take, Bool, true, false, refl, sym, ap, None, Some, arith}
use Rattle.std.specs.Prelude.{Result, Ok, Err, IfOk, map, slice_get}

pub clash : {b : Bool} → b ≡ true → b ≡ false → ⊥
clash e f = cc

pub neither : (a c : Bool) → (a || c) ≡ false → a ≡ false
neither true c e = absurd (cc)
neither false c e = refl

pub last_no : (a c : Bool) → (a || c) ≡ false → c ≡ false
last_no true c e = absurd (cc)
last_no false c e = e

pub or_right : (a c : Bool) → c ≡ true → (a || c) ≡ true
or_right true c e = refl
or_right false c e = e

pub if_ok : {T E : Type 0} (r : Result T E) (p q : T → Type 0) → ((t : T) → p t → q t) → IfOk r p → IfOk r q
if_ok (Ok t) p q f h = f t h
if_ok (Err e) p q f h = h

pub slice_map : {A B : Type 0} (g : A → B) (xs : List A) (n : ℕ) (x : A) → slice_get xs n ≡ Some x → slice_get (map g xs) n ≡ Some (g x)
slice_map g [] n x e = absurd (cc)
slice_map g (y ∷ ys) zero x e = (let same : y ≡ x = cc in ap (λ z. Some (g z)) same)
slice_map g (y ∷ ys) (suc n) x e = slice_map g ys n x e

pub length_map : {A B : Type 0} (g : A → B) (xs : List A) → length (map g xs) ≡ length xs
length_map g [] = refl
length_map g (x ∷ xs) = ap suc (length_map g xs)

pub beyond : {A : Type 0} (xs : List A) (n : ℕ) → length xs ≤ n → slice_get xs n ≡ None
beyond [] n h = refl
beyond (y ∷ ys) zero h = absurd (omega arith)
beyond (y ∷ ys) (suc n) h = beyond ys n (omega arith)

pub below : {A : Type 0} (xs : List A) (n : ℕ) (x : A) → slice_get xs n ≡ Some x → n < length xs
below [] n x e = absurd (cc)
below (y ∷ ys) zero x e = omega arith
below (y ∷ ys) (suc n) x e = (let low : n < length ys = below ys n x e in omega arith)

pub take_one : {A : Type 0} (xs : List A) (n : ℕ) (x : A) → slice_get xs n ≡ Some x → take n xs ++ x ∷ [] ≡ take (n + 1) xs
take_one {A} xs n x e = more xs n e ∙ ap (λ (m : ℕ). take m xs) next
  where
    next : suc n ≡ n + 1
    next = omega arith

    more : (ys : List A) (m : ℕ) → slice_get ys m ≡ Some x → take m ys ++ x ∷ [] ≡ take (suc m) ys
    more [] m e = absurd (cc)
    more (y ∷ ys) zero e = (let same : y ≡ x = cc in ap (λ (z : A). z ∷ []) (sym same))
    more (y ∷ ys) (suc m) e = ap (λ (zs : List A). y ∷ zs) (more ys m e)
