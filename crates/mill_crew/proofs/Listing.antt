-- The sums of files, listed one by one and share by share.
use Rattle.std.specs.Prelude.{ℕ, zero, suc, ◌≡◌, ◌+◌, ◌-◌, ◌≤◌, List, [], ◌∷◌, ◌++◌, length, map, sum_by}
use Rattle.std.specs.List.{All, range_with_len}
use Rattle.std.proofs.Common.{arith, ap, sym, subst, ◌∙◌, refl, add-one}
use Rattle.std.proofs.lemmas.List.{map-append}
use Rattle.std.proofs.lemmas.List.Elements.{All-push}
use Rattle.std.proofs.lemmas.List.FromFn.{length-map-range_with_len, map-range_with_len_more}
use Rattle.std.proofs.lemmas.List.Sums.{sum_by_push}
use Rattle.blob.specs.declared.sum.Sum256.{Sum256}
use Rattle.load_mill.specs.Files.{file_len, file_path}
use Rattle.load_mill.specs.Numbers.{number_after, number_behind}
use Rattle.mill_crew.specs.Contents.{bytes_of, file_sum, file_sums}

-- so many numbers, and then so many more
range_apart : (a m n : ℕ) → range_with_len a (m + n) ≡ range_with_len a m ++ range_with_len (a + m) n
range_apart a zero n =
    let none : 0 + n ≡ n = omega arith in
    let same : a ≡ a + 0 = omega arith in
    ap (range_with_len a) none ∙ ap (λ b. range_with_len b n) same
range_apart a (suc m) n =
    let one : suc m + n ≡ suc (m + n) = omega arith in
    let next : a + 1 + m ≡ a + suc m = omega arith in
    ap (range_with_len a) one ∙ ap (λ xs. a ∷ xs) (range_apart (a + 1) m n ∙ ap (λ b. range_with_len (a + 1) m ++ range_with_len b n) next)

-- the sums of so many files, and then of so many more
sums_apart : (seed from m n next : ℕ) → from + m ≡ next → file_sums seed from (m + n) ≡ file_sums seed from m ++ file_sums seed next n
sums_apart seed from m n next is =
    ap (map (file_sum seed)) (range_apart from m n)
    ∙ (map-append (file_sum seed) (range_with_len from m) (range_with_len (from + m) n)
    ∙ ap (λ b. file_sums seed from m ++ file_sums seed b n) is)

-- the sums of a share's files join those of the files before it
pub sums_added : (seed from to : ℕ) (old part new : List Sum256) → from ≡ length old → part ≡ file_sums seed from (to - from) → old ≡ file_sums seed 0 (length old) → new ≡ old ++ part
    → new ≡ file_sums seed 0 (length new)
sums_added seed from to old part new begins are before is =
    let next : 0 + length old ≡ from = omega (arith, begins) in
    let whole : new ≡ file_sums seed 0 (length old + (to - from)) =
    is ∙ (ap (λ xs. xs ++ part) before ∙ (ap (λ ys. file_sums seed 0 (length old) ++ ys) are ∙ sym (sums_apart seed 0 (length old) (to - from) from next))) in
    let count : length new ≡ length old + (to - from) = ap length whole ∙ length-map-range_with_len (file_sum seed) 0 (length old + (to - from)) in
    whole ∙ ap (file_sums seed 0) (sym count)

-- at first there are none
pub sums_none : (seed from : ℕ) → file_sums seed from (from - from) ≡ []
sums_none seed from = let none : from - from ≡ 0 = omega arith in ap (file_sums seed from) none

-- then one more
pub sums_more : (seed from index : ℕ) (old new : List Sum256) (s : Sum256) → from ≤ index → old ≡ file_sums seed from (index - from) → new ≡ old ++ s ∷ [] → s ≡ file_sum seed index
    → new ≡ file_sums seed from (index + 1 - from)
sums_more seed from index old new s above before is one =
    let count : index - from + 1 ≡ index + 1 - from = omega arith in
    let last : from + (index - from) ≡ index = omega arith in
    is
    ∙ (ap (λ xs. xs ++ s ∷ []) before
    ∙ (ap (λ x. file_sums seed from (index - from) ++ x ∷ []) one
    ∙ (sym (map-range_with_len_more (file_sum seed) from (index - from) index last) ∙ ap (file_sums seed from) count)))

-- the number of the next file
pub number_more : (x n : ℕ) → number_behind x (n + 1) ≡ number_after (number_behind x n)
number_more x n = rw add-one refl

-- the paths of files, one by one
pub paths_more : (at : ℕ) → map file_path (range_with_len 0 (at + 1)) ≡ map file_path (range_with_len 0 at) ++ file_path at ∷ []
paths_more at = map-range_with_len_more file_path 0 at at (omega arith)

-- the bytes of files, one by one
pub bytes_more : (seed at : ℕ) → bytes_of seed (at + 1) ≡ bytes_of seed at + file_len seed at
bytes_more seed at =
    let last : 0 + at ≡ at = omega arith in
    ap (sum_by (file_len seed)) (range_apart 0 at 1 ∙ ap (λ b. range_with_len 0 at ++ range_with_len b 1) last) ∙ sum_by_push (file_len seed) (range_with_len 0 at) at

-- one more element
pub one_more : {X : Type 0} (P : X → Type 0) (xs ys : List X) (x : X) → ys ≡ xs ++ x ∷ [] → All P xs → P x → All P ys
one_more P xs ys x is all one = subst (All P) (sym is) (All-push P xs x all one)
