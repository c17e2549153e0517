-- Items by fSeq, one by one.
use Rattle.std.proofs.Common.{◌≡◌, ◌∙◌, ◌+◌, ◌<◌, ℕ, suc, List, ◌∷◌, length, sym, ap, arith, drop}
use Rattle.std.specs.Prelude.{get_or}
use Rattle.std.proofs.Math.Seq.{drop-cons}
use Rattle.blob.specs.declared.sum.Sum256.{Sum256}
use Rattle.cta_model.specs.declared.asks.Item.{Item}
use Rattle.cta_model.specs.declared.asks.Job.{Job}
use Rattle.cta_model.specs.Batches.{insert_by_fseq}
use Rattle.part_laws.specs.Batches.{read_told}

-- the list from a place on
from_there : {A : Type 0} (xs : List A) (n : ℕ) (d : A) → n < length xs → drop n xs ≡ get_or xs n d ∷ drop (n + 1) xs
from_there xs n d low = drop-cons xs n d low ∙ ap (λ (m : ℕ). get_or xs n d ∷ drop m xs) (let e : suc n ≡ n + 1 = omega arith in e)

-- one job more is read, before the others
pub read_more : (sums : ℕ → Sum256) (fseqs : ℕ → ℕ) (js : List Job) (n m : ℕ) (d : Job) (i : Item) (was now : List Item) → n < length js → m ≡ n + 1 → was ≡ read_told sums fseqs (drop m js)
    → i ≡ record { job = get_or js n d; fseq = fseqs (get_or js n d).file; sum = sums (get_or js n d).file } → now ≡ insert_by_fseq i was → now ≡ read_told sums fseqs (drop n js)
read_more sums fseqs js n m d i was now low is before made put =
    put ∙ ap (λ (k : Item). insert_by_fseq k was) made
    ∙ ap (insert_by_fseq (record { job = get_or js n d; fseq = fseqs (get_or js n d).file; sum = sums (get_or js n d).file })) (before ∙ ap (λ (k : ℕ). read_told sums fseqs (drop k js)) is)
    ∙ ap (read_told sums fseqs) (sym (from_there js n d low))
