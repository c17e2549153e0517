-- A batch is what a walk of the queue takes, job by job.
use Rattle.std.proofs.Common.{◌≡◌, ◌∙◌, ℕ, suc, ◌+◌, ◌-◌, inl, inr, List, [], ◌∷◌, ◌++◌, Bool, true, false, refl, sym, ap, subst, arith, length}
use Rattle.std.specs.Prelude.{Some, None, filter, nat_le}
use Rattle.cta_model.specs.declared.asks.Item.{Item}
use Rattle.cta_model.specs.declared.asks.Job.{Job}
use Rattle.cta_model.specs.History.{History}
use Rattle.cta_model.specs.Files.{size_of, sum_of}
use Rattle.cta_model.specs.Batches.{taken_of, written_items, read_items, insert_by_fseq, fseq_on}
use Rattle.cta_site.specs.declared.site.Site.{Site}
use Rattle.cta_laws.proofs.Tests.{bool_cases}
use Rattle.part_model.specs.Order.{ComesBefore, InOrder, first_job, goes_before, next_job, walk_at}
use Rattle.part_laws.proofs.Orders.{before_more, before_self, order_filter}
use Rattle.part_laws.specs.Walks.{items_to_read, sorted_items}

-- the rest behind the first of jobs in order
all_later : (k : Job) (ks : List Job) → ComesBefore k ks → filter (goes_before k) ks ≡ ks
all_later k [] c = refl
all_later k (x ∷ ks) c = rw c.0 (ap (λ (js : List Job). x ∷ js) (all_later k ks c.1))

later_of_first : (k : Job) (ks : List Job) → InOrder (k ∷ ks) → filter (goes_before k) (k ∷ ks) ≡ ks
later_of_first k ks o =
    elim (bool_cases (goes_before k k))
    [ inl hit ↦ absurd (before_self k hit) | inr miss ↦ rw miss (all_later k ks o.0) ]

later_later : (j k : Job) (q : List Job) → goes_before j k ≡ true → filter (goes_before k) (filter (goes_before j) q) ≡ filter (goes_before k) q
later_later j k [] first = refl
later_later j k (x ∷ q) first =
    elim (bool_cases (goes_before k x)) [
      | inl hit ↦ (let here : goes_before j x ≡ true = before_more j k x first hit in rw (here, hit) (ap (λ (js : List Job). x ∷ js) (later_later j k q first)))
      | inr miss ↦ rw miss (elim (bool_cases (goes_before j x)) [ inl here ↦ rw here (rw miss (later_later j k q first)) | inr not_here ↦ rw not_here (later_later j k q first) ])
    ]

passes : (test : Job → Bool) (q : List Job) (k : Job) (ks : List Job) → filter test q ≡ k ∷ ks → test k ≡ true
passes test [] k ks e = absurd (cc)
passes test (x ∷ q) k ks e =
    elim (bool_cases (test x)) [
      | inl hit ↦ (let here : x ∷ filter test q ≡ k ∷ ks = rw hit at e in let same : x ≡ k = cc in subst (λ (y : Job). test y ≡ true) same hit)
      | inr miss ↦ passes test q k ks (rw miss at e)
    ]

-- a walk that starts at the first job has the whole queue before it
pub walk_starts : (q : List Job) → InOrder q → walk_at (first_job q) q ≡ q
walk_starts [] o = refl
walk_starts (j ∷ q) o = ap (λ (js : List Job). j ∷ js) (later_of_first j q o)

-- and going on to the next job leaves those behind this one
pub walk_goes_on : (j : Job) (q : List Job) → InOrder q → walk_at (next_job j q) q ≡ filter (goes_before j) q
walk_goes_on j q o = by (filter (goes_before j) q) refl (order_filter (goes_before j) q o)
  where
    by : (r : List Job) → filter (goes_before j) q ≡ r → InOrder r → walk_at (first_job r) q ≡ r
    by [] is o = refl
    by (k ∷ ks) is o =
        (let first : goes_before j k ≡ true = passes (goes_before j) q k ks is in
        ap (λ (js : List Job). k ∷ js) (sym (later_later j k q first) ∙ ap (filter (goes_before k)) is ∙ later_of_first k ks o))

-- a step of the walk: the job fits and is taken, or it is skipped
pub walk_takes : (h : History) (n room : ℕ) (j : Job) (q : List Job) → InOrder q → nat_le (size_of h j.file) room ≡ true → taken_of h (suc n) room (walk_at (Some j) q) ≡ j ∷ taken_of h n (room - size_of h j.file) (walk_at (next_job j q) q)
walk_takes h n room j q o fits = rw fits (ap (λ (r : List Job). j ∷ taken_of h n (room - size_of h j.file) r) (sym (walk_goes_on j q o)))

pub walk_skips : (h : History) (n room : ℕ) (j : Job) (q : List Job) → InOrder q → nat_le (size_of h j.file) room ≡ false → taken_of h (suc n) room (walk_at (Some j) q) ≡ taken_of h (suc n) room (walk_at (next_job j q) q)
walk_skips h n room j q o fits = rw fits (ap (taken_of h (suc n) room) (sym (walk_goes_on j q o)))

pub walk_ends : (h : History) (count room : ℕ) (q : List Job) → taken_of h count room (walk_at None q) ≡ []
walk_ends h count room q = refl

pub walk_is_full : (h : History) (room : ℕ) (j : Job) (q : List Job) → taken_of h 0 room (walk_at (Some j) q) ≡ []
walk_is_full h room j q = refl

-- the items of a batch are written one after another
pub written_more : (h : History) (s : ℕ) (js : List Job) (j : Job) → written_items h s (js ++ j ∷ []) ≡ written_items h s js ++ record { job = j; fseq = s + length js; sum = sum_of h j.file } ∷ []
written_more h s [] j = ap (λ (n : ℕ). record { job = j; fseq = n; sum = sum_of h j.file } ∷ []) (omega arith)
written_more h s (k ∷ js) j =
    ap (λ (is : List Item). record { job = k; fseq = s; sum = sum_of h k.file } ∷ is)
    (written_more h (s + 1) js j ∙ ap (λ (n : ℕ). written_items h (s + 1) js ++ record { job = j; fseq = n; sum = sum_of h j.file } ∷ []) (omega arith))

-- what a reading mount takes is what the walk takes, sorted by fSeq
pub read_sorted : (site : Site) (h : History) (v : ℕ) (js : List Job) → read_items site h v js ≡ sorted_items (items_to_read site h v js)
read_sorted site h v [] = refl
read_sorted site h v (j ∷ js) = ap (insert_by_fseq (record { job = j; fseq = fseq_on site h v j.file; sum = sum_of h j.file })) (read_sorted site h v js)
