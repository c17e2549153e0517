-- The paths of files of different indices differ.
use Rattle.std.specs.Prelude.{ℕ, ◌≡◌, ◌≢◌, ◌+◌, ◌*◌, ◌/◌, ◌%◌, ◌<◌, List, get_or, length}
use Rattle.std.proofs.Common.{arith, ap}
use Rattle.load_mill.specs.Files.{digit, file_path, big_path}

-- a number below a million is made of its six digits
whole : (k : ℕ) → k < 1000000 → k ≡ (((((k / 100000) % 10 * 10 + (k / 10000) % 10) * 10 + (k / 1000) % 10) * 10 + (k / 100) % 10) * 10 + (k / 10) % 10) * 10 + k % 10
whole k small =
    let a : k / 10 * 10 + k % 10 ≡ k = omega arith in
    let b : k / 100 * 10 + (k / 10) % 10 ≡ k / 10 = omega arith in
    let c : k / 1000 * 10 + (k / 100) % 10 ≡ k / 100 = omega arith in
    let d : k / 10000 * 10 + (k / 1000) % 10 ≡ k / 1000 = omega arith in
    let e : k / 100000 * 10 + (k / 10000) % 10 ≡ k / 10000 = omega arith in
    let f : (k / 100000) % 10 ≡ k / 100000 = omega arith in
    omega arith

-- files of one path have one index
pub digits_tell : (j k : ℕ) → j < 1000000 → k < 1000000 → file_path j ≡ file_path k → j ≡ k
digits_tell j k hj hk e =
    let at : (i : ℕ) → get_or (file_path j) i 0 ≡ get_or (file_path k) i 0 = λ i. ap (λ (xs : List ℕ). get_or xs i 0) e in
    let a : digit (j / 100000) ≡ digit (k / 100000) = at 7 in
    let b : digit (j / 10000) ≡ digit (k / 10000) = at 8 in
    let c : digit (j / 1000) ≡ digit (k / 1000) = at 9 in
    let d : digit (j / 100) ≡ digit (k / 100) = at 10 in
    let f : digit (j / 10) ≡ digit (k / 10) = at 11 in
    let g : digit j ≡ digit k = at 12 in
    let x = whole j hj in
    let y = whole k hk in
    omega arith

-- they are longer than that of the file that fills the buffer
pub none_is_big : (k : ℕ) → file_path k ≢ big_path
none_is_big k = λ e. let lengths : ◌≡◌ {A = ℕ} 13 7 = ap (λ (xs : List ℕ). length xs) e in absurd (omega arith)
