-- Items of jobs, one by one.
use Rattle.std.proofs.Common.{◌≡◌, ◌∙◌, ◌+◌, ◌<◌, ℕ, zero, suc, List, [], ◌∷◌, ◌++◌, length, true, sym, ap, arith, take}
use Rattle.std.specs.Prelude.{get_or}
use Rattle.std.proofs.lemmas.List.{length-take-le, take_more}
use Rattle.cta_model.specs.declared.asks.Item.{Item}
use Rattle.cta_model.specs.declared.asks.Job.{Job}
use Rattle.cta_model.specs.Batches.{written_items}
use Rattle.cta_model.specs.Files.{sum_of}
use Rattle.cta_model.specs.History.{History, entry_of}
use Rattle.kept_history.specs.Puts.{is_put}
use Rattle.part_answers.specs.Taken.{HavePuts}

-- each of the jobs has its Put
pub has_put : (h : History) (js : List Job) (k : ℕ) (d : Job) → HavePuts h js → k < length js → is_put (entry_of h (get_or js k d).file) ≡ true
has_put h [] k d puts low = absurd (omega arith)
has_put h (j ∷ js) zero d puts low = puts.0
has_put h (j ∷ js) (suc k) d puts low = has_put h js k d puts.1 (omega arith)

next_fseq : (s n : ℕ) → (s + 1) + n ≡ s + suc n
next_fseq s n = omega arith

-- one more item comes last, with the next fSeq
pub one_more_item : (h : History) (s : ℕ) (js : List Job) (j : Job) → written_items h s (js ++ j ∷ []) ≡ written_items h s js ++ record { job = j; fseq = s + length js; sum = sum_of h j.file } ∷ []
one_more_item h s [] j = (let e : s ≡ s + 0 = omega arith in ap (λ (n : ℕ). record { job = j; fseq = n; sum = sum_of h j.file } ∷ []) e)
one_more_item h s (k ∷ js) j =
    ap (λ (is : List Item). record { job = k; fseq = s; sum = sum_of h k.file } ∷ is) (one_more_item h (s + 1) js j)
    ∙ ap (λ (n : ℕ). (record { job = k; fseq = s; sum = sum_of h k.file } ∷ written_items h (s + 1) js) ++ record { job = j; fseq = n; sum = sum_of h j.file } ∷ []) (next_fseq s (length js))

-- the items behind one job more
pub items_step : (h : History) (s : ℕ) (js : List Job) (k : ℕ) (d : Job) (was held now : List Item) (it : Item) → k < length js → was ≡ written_items h s (take k js) → held ≡ was
    → it ≡ record { job = get_or js k d; fseq = s + k; sum = sum_of h (get_or js k d).file } → now ≡ held ++ it ∷ [] → now ≡ written_items h s (take (k + 1) js)
items_step h s js k d was held now it low before same made pushed =
    let count : length (take k js) ≡ k = length-take-le k js (omega arith) in
    pushed
    ∙ (λ i. (same ∙ before) i ++ made i ∷ [])
    ∙ ap (λ (n : ℕ). written_items h s (take k js) ++ record { job = get_or js k d; fseq = s + n; sum = sum_of h (get_or js k d).file } ∷ []) (sym count)
    ∙ sym (one_more_item h s (take k js) (get_or js k d))
    ∙ ap (written_items h s) (sym (take_more js k d low))
