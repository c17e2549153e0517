-- 1 to 19 digits are a number below 10 ^ 19.
use Rattle.std.proofs.Common.{◌≡◌, ◌<◌, ◌≤◌, ◌+◌, ◌*◌, ◌-◌, ◌^◌, ℕ, zero, suc, true, false, refl, Bool, ◌&&◌, List, [], ◌∷◌, length, take, get_or, ap, ◌∙◌, arith}
use Rattle.std.specs.List.{list_all}
use Rattle.std.specs.Char.{is_ascii_digit, digit_value}
use Rattle.std.specs.Str.Parse.{digits_value, AllDigits}
use Rattle.std.proofs.lemmas.Str.Parse.{IsNumeralModel, numerals_by_value, tells_digits, digits_value_short}
use Rattle.std.proofs.lemmas.Int.Digits.{digits_value_more}
use Rattle.std.proofs.lemmas.List.{length-take-le}
use Rattle.std.proofs.lemmas.Bool.{leb-true}
use Rattle.std.proofs.lemmas.Bool.Decides.{nat_tests}
use Rattle.wire_http.specs.Fields.{is_length}

own : IsNumeralModel (AllDigits 10) (digits_value 10)
own = numerals_by_value (AllDigits 10) tells_digits

pub both : (x y : Bool) → (x && y) ≡ true → (x ≡ true) × (y ≡ true)
both true y h = (refl, h)
both false y h = absurd (cc)

record IsDigit (b : ℕ) : Type 0 where
  pub low : 48 ≤ b
  pub high : b ≤ 57
  pub value : digit_value b ≡ b - 48

digit : (b : ℕ) → is_ascii_digit b ≡ true → IsDigit b
digit b h = record { low = grind (arith, nat_tests); high = grind (arith, nat_tests); value = grind (arith, nat_tests) }

all_from : (ds : List ℕ) (i : ℕ) → list_all is_ascii_digit ds ≡ true → AllDigits 10 (take i ds)
all_from ds zero h = tt
all_from [] (suc i) h = tt
all_from (d ∷ ds) (suc i) h =
    let e = both _ _ h in
    let f = digit d e.0 in
    (omega (arith, f.value, f.low, f.high), all_from ds i e.1)

digit_at : (ds : List ℕ) (i : ℕ) → i < length ds → list_all is_ascii_digit ds ≡ true → IsDigit (get_or ds i 0)
digit_at [] i inside h = absurd (omega arith)
digit_at (d ∷ ds) zero inside h = digit d (both _ _ h).0
digit_at (d ∷ ds) (suc i) inside h = digit_at ds i (omega arith) (both _ _ h).1

-- the step of a loop over the digits
pub record Steps (ds : List ℕ) (i : ℕ) : Type 0 where
  pub low : 48 ≤ get_or ds i 0
  pub next : digits_value 10 (take (i + 1) ds) ≡ digits_value 10 (take i ds) * 10 + (get_or ds i 0 - 48)
  pub small : digits_value 10 (take (i + 1) ds) < 10 ^ 19

pub steps : (ds : List ℕ) (i : ℕ) → i < length ds → is_length ds ≡ true → Steps ds i
unfolding is_length
steps ds i inside h =
    let a = both _ _ h in
    let b = both _ _ a.1 in
    let most : length ds ≤ 19 = leb-true _ _ b.0 in
    let here = digit_at ds i inside b.1 in
    let more = digits_value_more 10 ds i inside in
    let long = length-take-le (i + 1) ds (omega arith) in
    record {
      low = here.low;
      next = more ∙ ap (λ d. digits_value 10 (take i ds) * 10 + d) here.value;
      small = digits_value_short own (take (i + 1) ds) 19 (all_from ds (i + 1) b.1) (omega arith);
    }
