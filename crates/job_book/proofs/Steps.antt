-- Steps of the loops over places.
use Rattle.std.proofs.Common.{◌≡◌, ◌∙◌, ℕ, List, Bool, true, false, ◌&&◌, ◌||◌, refl, sym, ap, subst, None, Some, ◌+◌, arith}
use Rattle.std.specs.Prelude.{Option, if◌then◌else◌, ◌==◌, nat_lt}
use Rattle.std.proofs.lemmas.Bool.{eqb-true, eq-eqb}
use Rattle.std.proofs.lemmas.Bool.Decides.{nat_tests}
use Rattle.job_book.specs.Maps.{CopyKey, left_out, waits_at}

-- below 0 there is no place
pub none_left : (owner file f : ℕ) (x : Option ℕ) (i : ℕ) → x ≡ (if file == f && nat_lt i 0 then left_out owner x else x)
none_left owner file f x i = by (file == f)
  where
    by : (a : Bool) → x ≡ (if a && nat_lt i 0 then left_out owner x else x)
    by true = (let high : nat_lt i 0 ≡ false = grind (arith, nat_tests) in rw high refl)
    by false = refl

bools : (owner : ℕ) (a b c d : Bool) (x m n : Option ℕ) → d ≡ (b || c) → (b && c) ≡ false → m ≡ (if a && b then left_out owner x else x) → n ≡ (if a && c then left_out owner m else m) → n ≡ (if a && d then left_out owner x else x)
bools owner false b c d x m n split apart old new = new ∙ old
bools owner true true true d x m n split apart old new = absurd (cc)
bools owner true true false d x m n split apart old new = (rw split (new ∙ old))
bools owner true false true d x m n split apart old new = (rw split (new ∙ ap (left_out owner) old))
bools owner true false false d x m n split apart old new = (rw split (new ∙ old))

-- one place more
pub one_left : (owner : ℕ) (a : Bool) (i at : ℕ) (x m n : Option ℕ) → m ≡ (if a && nat_lt i at then left_out owner x else x) → n ≡ (if a && (at == i) then left_out owner m else m) → n ≡ (if a && nat_lt i (at + 1) then left_out owner x else x)
one_left owner a i at x m n old new = bools owner a (nat_lt i at) (at == i) (nat_lt i (at + 1)) x m n (split (at == i) refl) (far (at == i) refl) old new
  where
    split : (t : Bool) → (at == i) ≡ t → nat_lt i (at + 1) ≡ (nat_lt i at || t)
    split true e = (let same : at ≡ i = eqb-true at i e in let low : nat_lt i (at + 1) ≡ true = grind (arith, nat_tests) in let high : nat_lt i at ≡ false = grind (arith, nat_tests) in rw (low, high) refl)
    split false e = by (nat_lt i at) refl
      where
        by : (t : Bool) → nat_lt i at ≡ t → nat_lt i (at + 1) ≡ (t || false)
        by true low = grind (arith, nat_tests)
        by false high = grind (arith, nat_tests)

    far : (t : Bool) → (at == i) ≡ t → (nat_lt i at && t) ≡ false
    far true e = (let same : at ≡ i = eqb-true at i e in let high : nat_lt i at ≡ false = grind (arith, nat_tests) in rw high refl)
    far false e = by (nat_lt i at)
      where
        by : (t : Bool) → (t && false) ≡ false
        by true = refl
        by false = refl

-- the entry is left out at the place where it waits
pub left_at : (owner file at f i : ℕ) (waits : List (CopyKey × ℕ)) (x : Option ℕ) → waits_at waits file at ≡ Some owner → x ≡ (if file == f && at == i then None else waits_at waits f i)
    → x ≡ (if file == f && at == i then left_out owner (waits_at waits f i) else waits_at waits f i)
left_at owner file at f i waits x here new = by (file == f) refl (at == i) refl new
  where
    gone : (owner == owner) ≡ true → left_out owner (Some owner) ≡ None
    gone e = ap (λ (b : Bool). if b then None else Some owner) e

    by : (a : Bool) → (file == f) ≡ a → (b : Bool) → (at == i) ≡ b → x ≡ (if a && b then None else waits_at waits f i) → x ≡ (if a && b then left_out owner (waits_at waits f i) else waits_at waits f i)
    by true ea true eb new =
        (let there : waits_at waits f i ≡ Some owner = subst (λ (n : ℕ). waits_at waits n i ≡ Some owner) (eqb-true file f ea) (subst (λ (n : ℕ). waits_at waits file n ≡ Some owner) (eqb-true at i eb) here) in
        new ∙ sym (ap (left_out owner) there ∙ gone (eq-eqb owner owner refl)))
    by true ea false eb new = new
    by false ea b eb new = new
