-- Lists over the keys from 0 on.
use Rattle.std.proofs.Common.{◌≡◌, ◌∙◌, ◌++◌, ◌+◌, ℕ, zero, suc, List, ap, sym, arith, append_assoc, append-nil}
use Rattle.std.specs.List.{flat_map, range_with_len}

up : (a n : ℕ) → (a + 1) + n ≡ a + suc n
up a n = omega arith

keys_next : {A : Type 0} (f : ℕ → List A) (a n : ℕ) → flat_map f (range_with_len a (suc n)) ≡ flat_map f (range_with_len a n) ++ f (a + n)
keys_next f a zero = append-nil (f a) ∙ ap f (let e : a ≡ a + 0 = omega arith in e)
keys_next f a (suc n) =
    ap (λ xs. f a ++ xs) (keys_next f (a + 1) n)
    ∙ sym (append_assoc (f a) (flat_map f (range_with_len (a + 1) n)) (f ((a + 1) + n)))
    ∙ ap (λ (k : ℕ). (f a ++ flat_map f (range_with_len (a + 1) n)) ++ f k) (up a n)

keys_more : {A : Type 0} (f : ℕ → List A) (n : ℕ) → flat_map f (range_with_len 0 (n + 1)) ≡ flat_map f (range_with_len 0 n) ++ f n
keys_more f n =
    ap (λ (k : ℕ). flat_map f (range_with_len 0 k)) (let e : n + 1 ≡ suc n = omega arith in e)
    ∙ keys_next f 0 n
    ∙ ap (λ (k : ℕ). flat_map f (range_with_len 0 n) ++ f k) (let e : 0 + n ≡ n = omega arith in e)

-- a list that has what the keys before one give has what they and this one give once that is added
pub one_more : {A : Type 0} (f : ℕ → List A) (k : ℕ) (first list now xs : List A) → list ≡ first ++ flat_map f (range_with_len 0 k) → xs ≡ f k → now ≡ list ++ xs
    → now ≡ first ++ flat_map f (range_with_len 0 (k + 1))
one_more f k first list now xs before one added =
    added
    ∙ (λ i. before i ++ one i)
    ∙ append_assoc first (flat_map f (range_with_len 0 k)) (f k)
    ∙ ap (λ l. first ++ l) (sym (keys_more f k))
