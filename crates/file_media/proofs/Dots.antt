-- Names that end with a dot and a number.
use Rattle.std.proofs.Common.{◌≡◌, ◌≢◌, ◌<◌, ◌≤◌, ◌^◌, ◌∷◌, ◌++◌, [], ℕ, List, get_or, refl, sym, arith}
use Rattle.std.specs.Prelude.{codes}
use Rattle.std.specs.Fmt.{decimal}
use Rattle.std.specs.Int.{IsInRange}
use Rattle.std.proofs.lemmas.Str.Parse.{digit_at}
use Rattle.std.proofs.lemmas.Fmt.{digits_decimal, decimal_injective}
use Rattle.std.proofs.lemmas.List.Elements.{recursion_from_All, All-from_get_or}
use Rattle.cta_site.specs.Bytes.{Without}
use Rattle.file_media.specs.Names.{LockIsApart, NamesHaveNoSlash, PartsAreApart, RecordsAreApart, greatest_fseq, record_name}
use Rattle.file_media.proofs.Numbers.{own}

-- no such byte stands in what has none
no_word : (c : ℕ) (a x b : List ℕ) → a ++ c ∷ x ≡ b → Without c b → ⊥
no_word c [] x [] e q = cc
no_word c [] x (d ∷ b) e q = let same : d ≡ c = cc in q.0 same
no_word c (f ∷ a) x [] e q = cc
no_word c (f ∷ a) x (d ∷ b) e q = let tails : a ++ c ∷ x ≡ b = cc in no_word c a x b tails q.1

-- a last dot is found in one way
pub last_dot : (c : ℕ) (a b x y : List ℕ) → Without c x → Without c y → a ++ c ∷ x ≡ b ++ c ∷ y → (a ≡ b) × (x ≡ y)
last_dot c [] [] x y p q e = (refl, cc)
last_dot c [] (d ∷ b) x y p q e = let tails : b ++ c ∷ y ≡ x = cc in absurd (no_word c b y x tails p)
last_dot c (d ∷ a) [] x y p q e = let tails : a ++ c ∷ x ≡ y = cc in absurd (no_word c a x y tails q)
last_dot c (d ∷ a) (f ∷ b) x y p q e =
    let heads : d ≡ f = cc in
    let tails : a ++ c ∷ x ≡ b ++ c ∷ y = cc in
    let h = last_dot c a b x y p q tails in
    let front : a ≡ b = h.0 in
    (cc, h.1)

-- digits hold nothing else
pub Without-decimal : (c n : ℕ) → (IsInRange 48 57 c → ⊥) → n < 2 ^ 64 → Without c (decimal n)
Without-decimal c n other small =
    recursion_from_All (λ b. b ≢ c) (decimal n)
    (All-from_get_or (λ b. b ≢ c) (decimal n) 0
    (λ i h e. let d : IsInRange 48 57 (get_or (decimal n) i 0) = digit_at (decimal n) i (digits_decimal own n small) h in other (rw e at d)))

Without-append : (c : ℕ) (a b : List ℕ) → Without c a → Without c b → Without c (a ++ b)
Without-append c [] b p q = q
Without-append c (x ∷ a) b p q = (p.0, Without-append c a b p.1 q)

no_dot : IsInRange 48 57 46 → ⊥
no_dot h = omega arith

pub dotless : (n : ℕ) → n ≤ greatest_fseq → Without 46 (decimal n)
dotless n le = Without-decimal 46 n no_dot (omega arith)

pub records_apart : RecordsAreApart
records_apart v w s t ls lt e =
    let h = last_dot 46 v w (decimal s) (decimal t) (dotless s ls) (dotless t lt) e in
    (h.0, decimal_injective s t (omega arith) (omega arith) h.1)

-- a text that begins with a letter is no number
no_number : (c n : ℕ) (x : List ℕ) → 58 ≤ c → n ≤ greatest_fseq → c ∷ x ≡ decimal n → ⊥
no_number c n x letter le e =
    let none : Without c (c ∷ x) = rw (sym e) at (Without-decimal c n (λ h. omega arith) (omega arith)) in
    none.0 refl

pub parts_apart : PartsAreApart
parts_apart v s is =
    let h = last_dot 46 (record_name v s) is.0 (codes "part") (decimal is.1.0) (λ e. omega arith, (λ e. omega arith, (λ e. omega arith, (λ e. omega arith, tt)))) (dotless is.1.0 is.1.1.0) is.1.1.1 in
    no_number 112 is.1.0 (codes "art") (omega arith) is.1.1.0 h.1

pub lock_apart : LockIsApart
lock_apart is =
    let h = last_dot 46 (codes "cta") is.0 (codes "lock") (decimal is.1.0) (λ e. omega arith, (λ e. omega arith, (λ e. omega arith, (λ e. omega arith, tt)))) (dotless is.1.0 is.1.1.0) is.1.1.1 in
    no_number 108 is.1.0 (codes "ock") (omega arith) is.1.1.0 h.1

no_slash : IsInRange 48 57 47 → ⊥
no_slash h = omega arith

pub slashless : NamesHaveNoSlash
slashless v s le none =
    let name : Without 47 (record_name v s) = Without-append 47 v (46 ∷ decimal s) none (λ e. omega arith, Without-decimal 47 s no_slash (omega arith)) in
    (name, Without-append 47 (record_name v s) (codes ".part") name (λ e. omega arith, (λ e. omega arith, (λ e. omega arith, (λ e. omega arith, (λ e. omega arith, tt))))))
