-- Words with a byte behind them that they don't hold.
use Rattle.std.proofs.Common.{◌≡◌, ◌≢◌, ◌<◌, ◌^◌, ◌∷◌, ◌++◌, [], ℕ, List, get_or, true, false, refl, sym, ◌∙◌, arith}
use Rattle.std.specs.Str.{bytes_eq}
use Rattle.std.proofs.lemmas.Slice.Eq.{bytes_eq-Decides}
use Rattle.std.specs.Fmt.{decimal}
use Rattle.std.specs.Int.{IsInRange}
use Rattle.std.proofs.lemmas.Str.Parse.{digit_at}
use Rattle.std.proofs.lemmas.Fmt.{digits_decimal}
use Rattle.std.proofs.lemmas.List.Elements.{recursion_from_All, All-from_get_or}
use Rattle.cta_site.specs.Bytes.{Without}
use Rattle.replay.proofs.Numbers.{own}

-- a word and the byte behind it are found in one way
pub same_words : (c : ℕ) (a b x y : List ℕ) → Without c a → Without c b → a ++ c ∷ x ≡ b ++ c ∷ y → (a ≡ b) × (x ≡ y)
same_words c [] [] x y p q e = (refl, cc)
same_words c [] (d ∷ b) x y p q e = let same : c ≡ d = cc in absurd (q.0 (sym same))
same_words c (d ∷ a) [] x y p q e = let same : d ≡ c = cc in absurd (p.0 same)
same_words c (d ∷ a) (f ∷ b) x y p q e =
    let heads : d ≡ f = cc in
    let tails : a ++ c ∷ x ≡ b ++ c ∷ y = cc in
    let h = same_words c a b x y p.1 q.1 tails in
    let front : a ≡ b = h.0 in
    (cc, h.1)

-- no such byte stands in what has none
pub no_word : (c : ℕ) (a x b : List ℕ) → a ++ c ∷ x ≡ b → Without c b → ⊥
no_word c [] x [] e q = cc
no_word c [] x (d ∷ b) e q = let same : d ≡ c = cc in q.0 same
no_word c (f ∷ a) x [] e q = cc
no_word c (f ∷ a) x (d ∷ b) e q = let tails : a ++ c ∷ x ≡ b = cc in no_word c a x b tails q.1

-- what was not found equal is not
pub differ : (xs ys zs : List ℕ) → false ≡ bytes_eq xs ys → ys ≡ zs → zs ≡ xs → ⊥
differ xs ys zs e f g = let same : bytes_eq xs ys ≡ true = (bytes_eq-Decides xs ys).1 (sym (f ∙ g)) in cc

-- digits hold no byte below `0`
pub Without-decimal : (c n : ℕ) → c < 48 → n < 2 ^ 64 → Without c (decimal n)
Without-decimal c n low small =
    recursion_from_All (λ b. b ≢ c) (decimal n)
    (All-from_get_or (λ b. b ≢ c) (decimal n) 0
    (λ i h e. let d : IsInRange 48 57 (get_or (decimal n) i 0) = digit_at (decimal n) i (digits_decimal own n small) h in omega arith))

pub Without-append : (c : ℕ) (a b : List ℕ) → Without c a → Without c b → Without c (a ++ b)
Without-append c [] b p q = q
Without-append c (x ∷ a) b p q = (p.0, Without-append c a b p.1 q)
