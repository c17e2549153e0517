-- A target at its first question mark.
use Rattle.std.proofs.Common.{◌≡◌, ◌≢◌, ◌<◌, ◌⊎◌, ℕ, zero, suc, true, false, Bool, cond, ◌==◌, refl, List, [], ◌∷◌, length, take, get_or, ap, ◌∙◌, inl, inr, arith}
use Rattle.std.specs.Str.{IsUtf8, is_utf8}
use Rattle.std.proofs.lemmas.Bool.{eq-eqb, eqb-true, ne_eqb, cond-true, cond-false}
use Rattle.std.proofs.lemmas.Str.{IsUtf8-take, IsUtf8-from_ascii, is_utf8-from_IsUtf8, IsUtf8-from_is_utf8}
use Rattle.std.proofs.lemmas.Bool.Decides.{nat_tests}
use Rattle.std.proofs.lemmas.List.Elements.{All-weaker}
use Rattle.std.proofs.lemmas.Str.Ascii.{IsAscii-from_all}
use Rattle.httparse.specs.Grammar.{IsToken, is_token_byte}
use Rattle.wire_http.specs.Callers.{text_or_none}
use Rattle.wire_http.specs.Rules.{before_query}

pub query_at : (xs : List ℕ) (i : ℕ) → i < length xs → get_or xs i 0 ≡ 63 → ((k : ℕ) → k < i → get_or xs k 0 ≢ 63) → before_query xs ≡ take i xs
query_at [] i inside mark before = absurd (omega arith)
query_at (b ∷ bs) zero inside mark before = ap (λ t. cond t [] (b ∷ before_query bs)) (eq-eqb b 63 mark)
query_at (b ∷ bs) (suc i) inside mark before =
    ap (λ t. cond t [] (b ∷ before_query bs)) (ne_eqb b 63 (before 0 (omega arith)))
    ∙ ap (λ ys. b ∷ ys) (query_at bs i (omega arith) mark (λ k below. before (suc k) (omega arith)))

pub query_none : (xs : List ℕ) → ((k : ℕ) → k < length xs → get_or xs k 0 ≢ 63) → before_query xs ≡ xs
query_none [] none = refl
query_none (b ∷ bs) none =
    ap (λ t. cond t [] (b ∷ before_query bs)) (ne_eqb b 63 (none 0 (omega arith)))
    ∙ ap (λ ys. b ∷ ys) (query_none bs (λ k below. none (suc k) (omega arith)))

-- a front that ends before an ASCII byte is text where the whole is
pub record CutQuery (xs : List ℕ) : Type 0 where
  pub at : ℕ
  pub inside : at < length xs
  pub mark : get_or xs at 0 ≡ 63
  pub front : before_query xs ≡ take at xs

pub query_cut : (xs : List ℕ) → (before_query xs ≡ xs) ⊎ CutQuery xs
query_cut [] = inl refl
query_cut (b ∷ bs) = by_test (b == 63) refl (query_cut bs)
  where
    by_test : (t : Bool) → (b == 63) ≡ t → (before_query bs ≡ bs) ⊎ CutQuery bs → (before_query (b ∷ bs) ≡ b ∷ bs) ⊎ CutQuery (b ∷ bs)
    by_test true e r = inr (record { at = 0; inside = omega arith; mark = eqb-true b 63 e; front = cond-true _ _ _ e })
    by_test false e (inl same) = inl (cond-false _ _ _ e ∙ ap (λ ys. b ∷ ys) same)
    by_test false e (inr q) = inr (record { at = suc q.at; inside = omega (arith, q.inside); mark = q.mark; front = cond-false _ _ _ e ∙ ap (λ ys. b ∷ ys) q.front })

pub query_text : (xs : List ℕ) → IsUtf8 xs → IsUtf8 (before_query xs)
query_text xs utf8 = elim (query_cut xs) [
  | inl same ↦ rw same utf8
  | inr q ↦ rw q.front (IsUtf8-take xs q.at utf8 (omega (arith, q.inside), λ inside large. absurd (omega (arith, q.mark, large))))
]

-- what is text is taken as it is
pub text_is : (bytes : List ℕ) → IsUtf8 bytes → text_or_none bytes ≡ bytes
unfolding text_or_none
text_is bytes utf8 = cond-true _ _ _ (is_utf8-from_IsUtf8 bytes utf8)

pub text_is_none : (bytes : List ℕ) → ¬ (IsUtf8 bytes) → text_or_none bytes ≡ []
unfolding text_or_none
text_is_none bytes wrong = by_test (is_utf8 bytes) refl
  where
    by_test : (t : Bool) → is_utf8 bytes ≡ t → cond t bytes [] ≡ []
    by_test true e = absurd (wrong (IsUtf8-from_is_utf8 bytes e))
    by_test false e = refl

token_is_ascii : (b : ℕ) → is_token_byte b ≡ true → b < 128
unfolding is_token_byte
token_is_ascii b token = grind (arith, nat_tests)

pub token_text : (bytes : List ℕ) → IsToken bytes → text_or_none bytes ≡ bytes
token_text bytes token = text_is bytes (IsUtf8-from_ascii bytes (IsAscii-from_all bytes (All-weaker (λ b. is_token_byte b ≡ true) (λ b. b < 128) token_is_ascii bytes token.1)))
