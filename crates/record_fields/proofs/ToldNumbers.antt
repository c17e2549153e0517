-- The value that bytes begin with, and what follows it, by the bytes alone: bytes that were made of a value that fits tell this value. Numbers and texts.
use Rattle.std.proofs.Common.{◌≡◌, ◌∙◌, ◌++◌, ◌<◌, ◌^◌, Bool, false, true, if◌then◌else◌, ◌==◌, List, [], ◌∷◌, ℕ, length, take, drop, refl, ap}
use Rattle.std.proofs.Math.Seq.{take-append_seam, drop-append_seam}
use Rattle.std.proofs.lemmas.Nat.{from_be_bytes-to_be_bytes_4, from_be_bytes-to_be_bytes_8}
use Rattle.std.specs.Int.{w32, w64, from_be_bytes}
use Rattle.record_fields.specs.Numbers.{byte, number, long_number, truth, IsAny, IsByte, IsNumber, IsLong}
use Rattle.record_fields.specs.Texts.{text, TextFits}

abbrev pub told_byte : List ℕ → ℕ × List ℕ
told_byte [] = (0, [])
told_byte (n ∷ rest) = (n, rest)

pub byte_told : (n : ℕ) (rest : List ℕ) → IsByte n → told_byte (byte n rest) ≡ (n, rest)
byte_told n rest fit = refl

pub told_truth : List ℕ → Bool × List ℕ
told_truth bytes = (if (told_byte bytes).0 == 0 then false else true, (told_byte bytes).1)

pub truth_told : (b : Bool) (rest : List ℕ) → IsAny b → told_truth (truth b rest) ≡ (b, rest)
unfolding told_truth
truth_told false rest fit = refl
truth_told true rest fit = refl

pub told_number : List ℕ → ℕ × List ℕ
told_number bytes = (from_be_bytes w32 (take 4 bytes), drop 4 bytes)

pub number_told : (n : ℕ) (rest : List ℕ) → IsNumber n → told_number (number n rest) ≡ (n, rest)
unfolding told_number
number_told n rest fit = ap (λ m. (m, rest)) (from_be_bytes-to_be_bytes_4 n fit)

pub told_long : List ℕ → ℕ × List ℕ
told_long bytes = (from_be_bytes w64 (take 8 bytes), drop 8 bytes)

pub long_told : (n : ℕ) (rest : List ℕ) → IsLong n → told_long (long_number n rest) ≡ (n, rest)
unfolding told_long
long_told n rest fit = ap (λ m. (m, rest)) (from_be_bytes-to_be_bytes_8 n fit)

pub same_pair : {A B : Type 0} {a c : A} {b d : B} → a ≡ c → b ≡ d → ◌≡◌ {A = A × B} (a, b) (c, d)
same_pair {A} {B} {a} {c} {b} {d} first second = ap (λ x. (x, b)) first ∙ ap (λ y. (c, y)) second

-- so many bytes, and what follows them
abbrev pub told_front : ℕ × List ℕ → List ℕ × List ℕ
told_front p = (take p.0 p.1, drop p.0 p.1)

pub front_told : (bytes rest : List ℕ) → told_front (length bytes, bytes ++ rest) ≡ (bytes, rest)
front_told bytes rest = same_pair (take-append_seam bytes rest) (drop-append_seam bytes rest)

pub told_text : List ℕ → List ℕ × List ℕ
told_text bytes = told_front (told_number bytes)

pub text_told : (t : List ℕ) (rest : List ℕ) → TextFits t → told_text (text t rest) ≡ (t, rest)
unfolding told_text
text_told t rest fit = ap told_front (number_told (length t) (t ++ rest) fit.0) ∙ front_told t rest
