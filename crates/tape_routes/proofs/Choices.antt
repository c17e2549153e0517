-- Values that are there or not, and choices that are known.
use Rattle.std.proofs.Common.{◌≡◌, Bool, true, false, cond, List, Option, Some, None, refl, sym, true≢false, ◌++◌, append_assoc}

-- what is never some value is none
pub none_of : {A : Type 0} (o : Option A) → (((x : A) × (o ≡ Some x)) → ⊥) → o ≡ None
none_of None never = refl
none_of (Some x) never = absurd (never (x, refl))

-- the first of two, where the test is true
pub chosen : {A : Type 0} (b : Bool) (x y : A) → b ≡ true → cond b x y ≡ x
chosen true x y e = refl
chosen false x y e = absurd (true≢false (sym e))

-- the second of two, where the test is not true
pub not_chosen : {A : Type 0} (b : Bool) (x y : A) → ((b ≡ true) → ⊥) → cond b x y ≡ y
not_chosen true x y never = absurd (never refl)
not_chosen false x y never = refl

-- four pieces that were appended one by one
pub four_appended : {A : Type 0} (o p q r s a b c d : List A) → p ≡ o ++ a → q ≡ p ++ b → r ≡ q ++ c → s ≡ r ++ d → s ≡ o ++ (a ++ (b ++ (c ++ d)))
four_appended o p q r s a b c d e f g h = rw (h, g, f, e) (simp append_assoc)

-- and five
pub five_appended : {A : Type 0} (o p q r s t a b c d e : List A) → p ≡ o ++ a → q ≡ p ++ b → r ≡ q ++ c → s ≡ r ++ d → t ≡ s ++ e → t ≡ o ++ (a ++ (b ++ (c ++ (d ++ e))))
five_appended o p q r s t a b c d e f g h i j = rw (j, i, h, g, f) (simp append_assoc)

-- and three
pub three_appended : {A : Type 0} (o p q r a b c : List A) → p ≡ o ++ a → q ≡ p ++ b → r ≡ q ++ c → r ≡ o ++ (a ++ (b ++ c))
three_appended o p q r a b c d e f = rw (f, e, d) (simp append_assoc)
