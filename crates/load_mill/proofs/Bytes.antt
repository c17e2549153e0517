-- The bytes of a file, one by one.
use Rattle.std.specs.Prelude.{ℕ, ◌≡◌, ◌+◌, ◌%◌, [], ◌∷◌, ◌++◌}
use Rattle.std.proofs.Common.{ap, sym, arith, ◌∙◌}
use Rattle.std.proofs.Math.Nat.{mod-add-mod}
use Rattle.std.proofs.lemmas.List.FromFn.{map-range_with_len_more}
use Rattle.load_mill.specs.Numbers.{bytes_by}

-- one byte more, from the lowest byte of the number alone
pub bytes_more : (x n : ℕ) → bytes_by x (n + 1) ≡ bytes_by x n ++ (x % 256 + n) % 256 ∷ []
bytes_more x n =
    let from_nought : 0 + n ≡ n = omega arith in
    map-range_with_len_more (λ j. (x + j) % 256) 0 n n from_nought
    ∙ ap (λ b. bytes_by x n ++ b ∷ []) (sym (mod-add-mod x 256 n))
