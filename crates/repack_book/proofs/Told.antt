-- What is told of items, by their places.
use Rattle.std.proofs.Common.{◌≡◌, ◌∙◌, ◌<◌, ◌≤◌, ◌+◌, ℕ, zero, suc, List, [], ◌∷◌, ◌++◌, length, take, get_or, Some, refl, sym, ap, arith}
use Rattle.std.specs.Prelude.{slice_get}
use Rattle.cta_model.specs.declared.asks.Job.{Job}
use Rattle.cta_model.specs.declared.states.RepackCopy.{RepackCopy}
use Rattle.cta_model.specs.declared.reports.RepackItem.{RepackItem}
use Rattle.std.specs.Prelude.{unwrap_or}
use Rattle.cta_model.specs.declared.reports.ItemState.{ItemState}
use Rattle.cta_model.specs.declared.reports.ItemState.TheVariants as item
use Rattle.repack_book.specs.States.{States, item_at, items_of, state_at}
use Rattle.repack_book.specs.Reports.{item_told, items_told}

pub told_at : (states : States) (jobs : List Job) (paths : List (List ℕ)) (n : ℕ) (d : Job) (p : List ℕ) → n < length paths → length paths ≡ length jobs
    → slice_get (items_told (items_of states jobs) paths) n ≡ Some (item_told (item_at states (get_or jobs n d)) (get_or paths n p))
told_at states [] [] n d p h e = absurd (omega arith)
told_at states [] (q ∷ qs) n d p h e = absurd (omega arith)
told_at states (j ∷ js) [] n d p h e = absurd (omega arith)
told_at states (j ∷ js) (q ∷ qs) zero d p h e = refl
told_at states (j ∷ js) (q ∷ qs) (suc n) d p h e = told_at states js qs n d p (omega arith) (omega arith)

pub told_length : (items : List RepackCopy) (paths : List (List ℕ)) → length (items_told items paths) ≤ length paths
told_length [] paths = omega arith
told_length (i ∷ is) [] = omega arith
told_length (i ∷ is) (p ∷ ps) = (let rest : length (items_told is ps) ≤ length ps = told_length is ps in omega arith)

pub take_one : (xs : List RepackItem) (n : ℕ) (x : RepackItem) → slice_get xs n ≡ Some x → take n xs ++ x ∷ [] ≡ take (n + 1) xs
take_one xs n x e = more xs n e ∙ ap (λ (m : ℕ). take m xs) next
  where
    next : suc n ≡ n + 1
    next = omega arith

    more : (ys : List RepackItem) (m : ℕ) → slice_get ys m ≡ Some x → take m ys ++ x ∷ [] ≡ take (suc m) ys
    more [] m e = absurd (cc)
    more (y ∷ ys) zero e = (let same : y ≡ x = cc in ap (λ (z : RepackItem). z ∷ []) (sym same))
    more (y ∷ ys) (suc m) e = ap (λ (zs : List RepackItem). y ∷ zs) (more ys m e)

-- ---- one item, as it is told

-- the job that stands for none
abbrev pub no_job : Job
no_job = record { birth = 0; file = 0; copy = 0 }

pub told_row : (states : States) (jobs js : List Job) (paths ps : List (List ℕ)) (n : ℕ) (st : ItemState) (x path : List ℕ) → js ≡ jobs → ps ≡ paths → n < length paths → length paths ≡ length jobs
    → st ≡ unwrap_or (state_at states (get_or js n no_job).file (get_or js n no_job).copy) item.Gone → x ≡ get_or ps n x → path ≡ x
    → slice_get (items_told (items_of states jobs) paths) n ≡ Some (record { path = path; copy = (get_or js n no_job).copy; state = st })
told_row states jobs js paths ps n st x path ejs eps h e est ex epath =
    let at : get_or paths n x ≡ path = ap (λ (l : List (List ℕ)). get_or l n x) (sym eps) ∙ sym ex ∙ sym epath in
    let state : unwrap_or (state_at states (get_or jobs n no_job).file (get_or jobs n no_job).copy) item.Gone ≡ st = ap (λ (l : List Job). unwrap_or (state_at states (get_or l n no_job).file (get_or l n no_job).copy) item.Gone) (sym ejs) ∙ sym est in
    let copy : (get_or jobs n no_job).copy ≡ (get_or js n no_job).copy = ap (λ (l : List Job). (get_or l n no_job).copy) (sym ejs) in
    told_at states jobs paths n no_job x h e ∙ (λ i. Some (record { path = at i; copy = copy i; state = state i }))
