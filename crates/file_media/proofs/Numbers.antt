-- Numbers in digits, with no sign and no leading zero.
use Rattle.std.proofs.Common.{◌≡◌, ◌<◌, ◌^◌, ℕ, zero, suc, List, length, get_or, Result, Ok, sym, ap, arith}
use Rattle.std.specs.Fmt.{decimal}
use Rattle.std.specs.Str.{IsUtf8}
use Rattle.std.specs.Str.Parse.{ParsesUnsigned, AllDigits, digits_value}
use Rattle.std.proofs.lemmas.Str.Parse.{IsNumeralModel, numerals_by_value, tells_digits, not_in_digits, parse_plain}
use Rattle.std.proofs.lemmas.Fmt.{digits_decimal, decimal_nonempty, first_decimal, decimal_digit, decimal-digits_value, parse-decimal, IsAscii-decimal}
use Rattle.std.proofs.lemmas.Result.{OkIff-at_ok}
use Rattle.std.proofs.lemmas.Str.{IsUtf8-from_ascii}
use Rattle.std.specs.Int.{IsInRange}
use Rattle.file_media.specs.Names.{IsPlain}

abbrev pub own : IsNumeralModel (AllDigits 10) (digits_value 10)
own = numerals_by_value (AllDigits 10) tells_digits

no_plus : IsInRange 48 57 43 → ⊥
no_plus h = omega arith

plain_decimal : (n : ℕ) → n < 2 ^ 64 → IsPlain (decimal n)
plain_decimal n small = (not_in_digits own (decimal n) 43 (digits_decimal own n small) no_plus 0 (decimal_nonempty n small), alone n small)
  where
    alone : (n : ℕ) → n < 2 ^ 64 → get_or (decimal n) 0 0 ≡ 48 → length (decimal n) ≡ 1
    alone zero small e = ap length (decimal_digit 0 (omega arith))
    alone (suc n) small e = absurd (omega (arith, first_decimal (suc n) (omega arith) small))

-- what spells a number is plain text, and reads as that number
pub plain_from_spelled : (n : ℕ) (bs : List ℕ) → n < 2 ^ 64 → decimal n ≡ bs → IsPlain bs
plain_from_spelled n bs small e = rw e at (plain_decimal n small)

pub utf8_from_spelled : (n : ℕ) (bs : List ℕ) → n < 2 ^ 64 → decimal n ≡ bs → IsUtf8 bs
utf8_from_spelled n bs small e = rw e at (IsUtf8-from_ascii (decimal n) (IsAscii-decimal n small))

pub read_from_spelled : {E : Type 0} (n : ℕ) (bs : List ℕ) (r : Result ℕ E) → n < 2 ^ 32 → decimal n ≡ bs → ParsesUnsigned 32 10 bs r → r ≡ Ok n
read_from_spelled n bs r small e h = parse-decimal 32 n bs r small (omega arith) (sym e) h

-- plain text that reads as a number spells it
pub spelled_from_read : {E : Type 0} (n : ℕ) (bs : List ℕ) (r : Result ℕ E) → IsPlain bs → ParsesUnsigned 32 10 bs r → r ≡ Ok n → decimal n ≡ bs
spelled_from_read n bs r plain h e =
    let p = OkIff-at_ok r _ _ n (parse_plain own 32 bs r h plain.0) e in
    rw p.1 (decimal-digits_value own bs p.0.0 p.0.1 plain.1 (omega (arith, p.0.2)))
