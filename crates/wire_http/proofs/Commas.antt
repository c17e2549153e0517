-- A value at its first comma.
use Rattle.std.proofs.Common.{◌≡◌, ◌≢◌, ◌<◌, ◌+◌, ℕ, Bool, zero, suc, true, false, cond, ◌||◌, refl, List, [], ◌∷◌, length, map, take, drop, get_or, ap, ◌∙◌, add-one, arith}
use Rattle.std.specs.List.{list_any}
use Rattle.std.proofs.lemmas.Bool.{eq-eqb, ne_eqb}
use Rattle.httparse.specs.Grammar.{trim_ows}
use Rattle.wire_http.specs.Fields.{is_word}
use Rattle.wire_http.specs.Options.{with_front, cut_at_commas, options, has_option}

-- the first piece ends at the first comma
cut_at : (xs : List ℕ) (i : ℕ) → i < length xs → get_or xs i 0 ≡ 44 → ((k : ℕ) → k < i → get_or xs k 0 ≢ 44)
    → cut_at_commas xs ≡ take i xs ∷ cut_at_commas (drop (suc i) xs)
cut_at [] i inside comma before = absurd (omega arith)
cut_at (b ∷ bs) zero inside comma before =
    ap (λ t. cond t ([] ∷ cut_at_commas bs) (with_front b (cut_at_commas bs))) (eq-eqb b 44 comma)
cut_at (b ∷ bs) (suc i) inside comma before =
    ap (λ t. cond t ([] ∷ cut_at_commas bs) (with_front b (cut_at_commas bs))) (ne_eqb b 44 (before 0 (omega arith)))
    ∙ ap (with_front b) (cut_at bs i (omega arith) comma (λ k below. before (suc k) (omega arith)))

cut_none : (xs : List ℕ) → ((k : ℕ) → k < length xs → get_or xs k 0 ≢ 44) → cut_at_commas xs ≡ xs ∷ []
cut_none [] none = refl
cut_none (b ∷ bs) none =
    ap (λ t. cond t ([] ∷ cut_at_commas bs) (with_front b (cut_at_commas bs))) (ne_eqb b 44 (none 0 (omega arith)))
    ∙ ap (with_front b) (cut_none bs (λ k below. none (suc k) (omega arith)))

pub option_at : (word xs : List ℕ) (i : ℕ) → i < length xs → get_or xs i 0 ≡ 44 → ((k : ℕ) → k < i → get_or xs k 0 ≢ 44)
    → has_option word xs ≡ (is_word word (trim_ows (take i xs)) || has_option word (drop (i + 1) xs))
unfolding has_option options
option_at word xs i inside comma before = rw add-one (ap (λ ps. list_any (is_word word) (map trim_ows ps)) (cut_at xs i inside comma before))

pub option_last : (word xs : List ℕ) → ((k : ℕ) → k < length xs → get_or xs k 0 ≢ 44) → has_option word xs ≡ (is_word word (trim_ows xs) || false)
unfolding has_option options
option_last word xs none = ap (λ ps. list_any (is_word word) (map trim_ows ps)) (cut_none xs none)

pub or_true : (a b : Bool) → a ≡ true → (a || b) ≡ true
or_true a b e = rw e refl

pub or_false : (a : Bool) → (a || false) ≡ a
or_false true = refl
or_false false = refl

pub or_of_false : (a b : Bool) → a ≡ false → (a || b) ≡ b
or_of_false a b e = rw e refl
