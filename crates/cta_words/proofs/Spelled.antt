-- Numbers in decimal digits.
use Rattle.std.proofs.Common.{◌≡◌, ◌<◌, ◌^◌, ℕ, zero, suc, List, [], ◌∷◌, length, get_or, Result, Ok, sym, ap, ◌∙◌, subst, refl, arith}
use Rattle.std.specs.Borrow.{Bor}
use Rattle.std.specs.Fmt.{decimal}
use Rattle.std.specs.Int.{IsInRange}
use Rattle.std.specs.List.{All}
use Rattle.std.specs.Str.Parse.{ParsesUnsigned, AllDigits, digits_value}
use Rattle.std.proofs.lemmas.Fmt.{digits_decimal, decimal_injective, decimal_nonempty, first_decimal, decimal_digit, decimal-digits_value, parse-decimal}
use Rattle.std.proofs.lemmas.List.Elements.{All-from_recursion}
use Rattle.std.proofs.lemmas.Result.{OkIff-at_ok}
use Rattle.std.proofs.lemmas.Str.Parse.{IsNumeralModel, numerals_by_value, tells_digits, not_in_digits, parse_plain}
use Rattle.cta_words.specs.Numbers.{ExplainsNoRun, IsBare, SpellsIn, SpellsRun, run_words}
use Rattle.cta_words.specs.Words.{Explains, IsPlainWord, Spells}
use Rattle.cta_words.specs.declared.form.Form.{Form}
use Rattle.cta_words.specs.declared.form.Form.TheVariants.{Mill}
use Rattle.cta_words.specs.declared.form.WordsError.{WordsError}
use Rattle.cta_words.specs.declared.form.WordsError.TheVariants.{Usage, NoMemory}
use Rattle.cta_words.specs.declared.numbers.MillNumbers.{MillNumbers}

abbrev own : IsNumeralModel (AllDigits 10) (digits_value 10)
own = numerals_by_value (AllDigits 10) tells_digits

no_plus : IsInRange 48 57 43 → ⊥
no_plus h = omega arith

no_dash : IsInRange 48 57 45 → ⊥
no_dash h = omega arith

bare_decimal : (n : ℕ) → n < 2 ^ 64 → IsBare (decimal n)
bare_decimal n small = (not_in_digits own (decimal n) 43 (digits_decimal own n small) no_plus 0 (decimal_nonempty n small), alone n small)
  where
    alone : (n : ℕ) → n < 2 ^ 64 → get_or (decimal n) 0 0 ≡ 48 → length (decimal n) ≡ 1
    alone zero small e = ap length (decimal_digit 0 (omega arith))
    alone (suc n) small e = absurd (omega (arith, first_decimal (suc n) (omega arith) small))

-- what spells a number is bare, and reads as that number
pub bare_from_spelled : (n : ℕ) (text : List ℕ) → n < 2 ^ 64 → decimal n ≡ text → IsBare text
bare_from_spelled n text small e = rw e at (bare_decimal n small)

pub read_from_spelled : {E : Type 0} (n : ℕ) (text : List ℕ) (r : Result ℕ E) → n < 2 ^ 64 → decimal n ≡ text → ParsesUnsigned 64 10 text r → r ≡ Ok n
read_from_spelled n text r small e h = parse-decimal 64 n text r small (omega arith) (sym e) h

-- bare text that reads as a number spells it
pub spelled_from_read : {E : Type 0} (n : ℕ) (text : List ℕ) (r : Result ℕ E) → IsBare text → ParsesUnsigned 64 10 text r → r ≡ Ok n → decimal n ≡ text
spelled_from_read n text r bare h e =
    let p = OkIff-at_ok r _ _ n (parse_plain own 64 text r h bare.0) e in
    rw p.1 (decimal-digits_value own text p.0.0 p.0.1 bare.1 (omega (arith, p.0.2)))

-- one text spells one number
pub one_number : (text : List ℕ) (least most n m : ℕ) → most < 2 ^ 64 → n < 2 ^ 64 → decimal n ≡ text → SpellsIn text least most m → m ≡ n
one_number text least most n m top small e s = decimal_injective m n (omega (arith, s.1)) small (sym s.2 ∙ sym e)

-- a number in digits is a plain word
plain_text : (n : ℕ) (text : List ℕ) → n < 2 ^ 64 → decimal n ≡ text → IsPlainWord text
plain_text n [] small e = absurd (omega (arith, ap length e, decimal_nonempty n small))
plain_text n (c ∷ cs) small e = λ dash. not_in_digits own (decimal n) 45 (digits_decimal own n small) no_dash 0 (decimal_nonempty n small) (rw e dash)

-- a text, lent from some place
unfoldable pub lent : List ℕ → Bor (List ℕ)
lent text = record { ref_ptr = (0, 0); now = text }

-- the words of a run are those of a form
form_of : (words : List (List ℕ)) (m : MillNumbers) → SpellsRun words m → Spells words (Mill (lent (decimal m.seed)) (lent (decimal m.files)) (lent (decimal m.workers)))
unfolding lent
form_of words m s = (
  s.0,
  subst (All IsPlainWord) (sym s.0)
      (All-from_recursion IsPlainWord (run_words m) (
        (λ e. omega arith),
        (
          plain_text m.seed (decimal m.seed) s.1.0 refl,
          (plain_text m.files (decimal m.files) (omega (arith, s.1.2)) refl, (plain_text m.workers (decimal m.workers) (omega (arith, s.1.4)) refl, tt)),
        ),
      )),
)

-- words of no form are those of no run
pub none_is_run : (words : List (List ℕ)) → ((form : Form) → Spells words form → ⊥) → (m : MillNumbers) → SpellsRun words m → ⊥
none_is_run words none m s = none (Mill (lent (decimal m.seed)) (lent (decimal m.files)) (lent (decimal m.workers))) (form_of words m s)

-- words that no form spells are those of no run, and for want of memory nothing is said
pub explains_none : (words : List (List ℕ)) (why : WordsError) → Explains words why → ExplainsNoRun words why
explains_none words Usage none = none_is_run words none
explains_none words NoMemory any = tt
