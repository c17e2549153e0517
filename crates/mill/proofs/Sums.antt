-- How many sums there are.
use Rattle.std.specs.Prelude.{ℕ, ◌≡◌, ◌≤◌, List, length}
use Rattle.std.proofs.Common.{arith, ap, ◌∙◌}
use Rattle.std.proofs.lemmas.List.FromFn.{length-map-range_with_len}
use Rattle.blob.specs.declared.sum.Sum256.{Sum256}
use Rattle.mill_crew.specs.Contents.{file_sum, file_sums}

pub few_sums : (seed files : ℕ) (xs : List Sum256) → xs ≡ file_sums seed 0 files → files ≤ 10000 → length xs ≤ 1000000
few_sums seed files xs are few =
    let count : length xs ≡ files = ap length are ∙ length-map-range_with_len (file_sum seed) 0 files in
    omega (arith, count, few)
