-- Each item of a tape has the length and SHA-256 of its file.
use Rattle.std.proofs.Common.{◌≡◌, ℕ, ◌+◌, ◌-◌, ◌≤◌, List, [], ◌∷◌, ◌++◌, true, false, refl, sym, ap, subst, arith, length, ◌∙◌}
use Rattle.std.specs.Prelude.{Option, Some, None, if◌then◌else◌, ◌==◌, bytes_eq}
use Rattle.std.specs.List.{AllByRecursion}
use Rattle.std.proofs.lemmas.Bool.{and_parts, eqb-true}
use Rattle.std.proofs.lemmas.Slice.Eq.{bytes_eq-Decides}
use Rattle.blob.specs.declared.sum.Sum256.{Sum256}
use Rattle.cta_site.specs.declared.site.Site.{Site}
use Rattle.cta_site.specs.Listed.{Listed}
use Rattle.cta_model.specs.declared.entries.Entry.{Entry}
use Rattle.cta_model.specs.declared.asks.Ask.{Ask}
use Rattle.cta_model.specs.declared.asks.Ask.TheVariants as ask
use Rattle.cta_model.specs.declared.asks.Direction.{Direction}
use Rattle.cta_model.specs.declared.asks.Direction.TheVariants as direction
use Rattle.cta_model.specs.declared.asks.Item.{Item}
use Rattle.cta_model.specs.declared.asks.Job.{Job}
use Rattle.cta_model.specs.declared.answers.Answer.{Answer}
use Rattle.cta_model.specs.declared.answers.Answer.TheVariants as answer
use Rattle.cta_model.specs.History.{History, moment_of}
use Rattle.cta_model.specs.Files.{sum_of, entry_sum}
use Rattle.cta_model.specs.Mounts.{tape_of_mount, asked_mount, last_batch, batch_in, batch_or, same_job}
use Rattle.cta_model.specs.Tapes.{tape_items, items_after, next_fseq, used_bytes}
use Rattle.cta_model.specs.Space.{free_space, evictable_size}
use Rattle.cta_model.specs.Batches.{written_items, read_items, fseq_on, batch_by, taken_of, batch_of}
use Rattle.cta_site.specs.Lookups.{capacity_of, pool_of_tape}
use Rattle.cta_model.specs.Queues.{queue_of}
use Rattle.cta_model.specs.Answers.{answer_of, is_accepted, is_last_batch, same_items, same_item}
use Rattle.cta_model.specs.Legal.{IsLegal}
use Rattle.cta_laws.specs.Places.{IsOfItsFile, ItemsAreOfFiles}
use Rattle.cta_laws.proofs.Tests.{bool_cases}
use Rattle.cta_laws.proofs.Claims.{AllOf, all_append, all_mono, all_filter, insert_all, IsBatch, ItemBelow, Below, claim_is_batch, claim_all, queue_below}
use Rattle.cta_laws.proofs.Sums.{both, entry_older}
use Rattle.cta_laws.proofs.PlaceLaw.{flushed_known}

-- ---- the items of a Claim

abbrev HasSum : History → Item → Type 0
HasSum h i = i.sum ≡ sum_of h i.job.file

written_sums : (h : History) (s : ℕ) (js : List Job) → AllOf (HasSum h) (written_items h s js)
written_sums h s [] = tt
written_sums h s (j ∷ js) = (refl, written_sums h (s + 1) js)

read_sums : (site : Site) (h : History) (v : ℕ) (js : List Job) → AllOf (HasSum h) (read_items site h v js)
read_sums site h v [] = tt
read_sums site h v (j ∷ js) = insert_all (HasSum h) (record { job = j; fseq = fseq_on site h v j.file; sum = sum_of h j.file }) (read_items site h v js) refl (read_sums site h v js)

batch_sums : (site : Site) (h : History) (t : ℕ) (way : Direction) (v : ℕ) → AllOf (HasSum h) (batch_by site h t way v)
batch_sums site h t direction.Archive v = written_sums h (next_fseq h v) (taken_of h site.limits.batch_files (capacity_of site v - used_bytes h v) (queue_of site h direction.Archive (pool_of_tape site v)))
batch_sums site h t direction.Retrieve v = read_sums site h v (taken_of h site.limits.batch_files (free_space site h + evictable_size site h t) (queue_of site h direction.Retrieve v))

claim_sums : (site : Site) (h : History) (t m : ℕ) (items : Listed Item) (evicted : Listed ℕ) → answer.Batch items evicted ≡ answer_of site h t (ask.Claim m) → AllOf (λ i. (i.sum ≡ sum_of h i.job.file) × (i.job.file ≤ length h)) items.items
claim_sums site h t m items evicted e =
    let is : IsBatch site h (moment_of h t) _ items.items = claim_is_batch site h t m items evicted e in
    both (HasSum h) (ItemBelow (length h)) items.items
    (subst (λ (xs : List Item). AllOf (HasSum h) xs) (sym is.2) (batch_sums site h (moment_of h t) is.0.direction is.0.tape))
    (claim_all (Below (length h)) site h t m items evicted e (queue_below site h))

sum_older : (e : Entry) (h : History) (i : Item) → IsOfItsFile h i → IsOfItsFile (e ∷ h) i
sum_older e h i p = (let low : i.job.file ≤ length h = p.0 in (omega arith, p.1 ∙ sym (ap entry_sum (entry_older e h i.job.file low))))

-- ---- the last batch of a mount, and what it flushes

last_step : (site : Site) (h : History) (t m : ℕ) (k : Ask) (a : Answer) (o : Option (List Item)) (items : List Item) → a ≡ answer_of site h t k → (o ≡ Some items → AllOf (IsOfItsFile h) items) → batch_or (batch_in k a m) o ≡ Some items → AllOf (IsOfItsFile h) items
last_step site h t m (ask.Claim k) (answer.Batch xs evicted) o items is older =
    elim (k == m) as (λ b. batch_or (if b then Some xs.items else None) o ≡ Some items → AllOf (IsOfItsFile h) items) [
      | true ↦ λ e.
          (let same : xs.items ≡ items = cc in
          subst (λ (ys : List Item). AllOf (IsOfItsFile h) ys) same
          (all_mono (λ (i : Item). (i.sum ≡ sum_of h i.job.file) × (i.job.file ≤ length h)) (IsOfItsFile h) xs.items (λ i p. (p.1, p.0)) (claim_sums site h t k xs evicted is)))
      | false ↦ λ e. older e
    ]
last_step site h t m _ a o items is older = λ e. older e

last_of_files : (site : Site) (h : History) → IsLegal site h → (m : ℕ) (items : List Item) → last_batch h m ≡ Some items → AllOf (IsOfItsFile h) items
last_of_files site [] legal m items e = absurd (cc)
last_of_files site (e ∷ h) legal m items is =
    all_mono (IsOfItsFile h) (IsOfItsFile (e ∷ h)) items (λ i p. sum_older e h i p)
    (last_step site h e.at m e.ask e.answer (last_batch h m) items legal.1.answered (λ q. last_of_files site h legal.0 m items q) is)

same_sum : (a b : Sum256) → a.len ≡ b.len → a.digest ≡ b.digest → a ≡ b
same_sum a b len digest = ap (λ (n : ℕ). record { len = n; digest = a.digest }) len ∙ ap (λ (d : List ℕ). record { len = b.len; digest = d }) digest

same_of_files : (h : History) (xs ys : List Item) → same_items xs ys ≡ true → AllOf (IsOfItsFile h) ys → AllOf (IsOfItsFile h) xs
same_of_files h [] [] e all = tt
same_of_files h [] (y ∷ ys) e all = absurd (cc)
same_of_files h (x ∷ xs) [] e all = absurd (cc)
same_of_files h (x ∷ xs) (y ∷ ys) e all =
    let p = and_parts (same_item x y) _ e in
    let q = and_parts (same_job x.job y.job) _ p.0 in
    let file : x.job.file ≡ y.job.file = eqb-true _ _ (and_parts (x.job.file == y.job.file) _ (and_parts (x.job.birth == y.job.birth) _ q.0).1).0 in
    let r = and_parts (x.sum.len == y.sum.len) _ (and_parts (x.fseq == y.fseq) _ q.1).1 in
    let sum : x.sum ≡ y.sum = same_sum x.sum y.sum (eqb-true _ _ r.0) ((bytes_eq-Decides x.sum.digest y.sum.digest).0 r.1) in
    ((subst (λ (n : ℕ). n ≤ length h) (sym file) all.0.0, sum ∙ all.0.1 ∙ ap (sum_of h) (sym file)), same_of_files h xs ys p.1 all.1)

pub flushed_of_files : (site : Site) (h : History) → IsLegal site h → (m : ℕ) (items : List Item) (o : Option (List Item)) → last_batch h m ≡ o → is_last_batch o items ≡ true → AllOf (IsOfItsFile h) items
flushed_of_files site h legal m items None last e = absurd (cc)
flushed_of_files site h legal m items (Some xs) last e = same_of_files h items xs e (last_of_files site h legal m xs last)

items_step : (site : Site) (h : History) (e : Entry) → IsLegal site (e ∷ h) → (k : Ask) → e.ask ≡ k → (v w : ℕ) → AllOf (IsOfItsFile h) (tape_items h v) → AllOf (IsOfItsFile h) (items_after k v w (tape_items h v))
items_step site h e legal (ask.Flushed m items) ek v w before =
    let known = flushed_known site h e.at m items e.answer (legal.1.answered ∙ ap (answer_of site h e.at) ek) legal.1.accepted in
    elim (w == v) as (λ b. AllOf (IsOfItsFile h) (if b then tape_items h v ++ items.items else tape_items h v))
    [ true ↦ all_append (IsOfItsFile h) (tape_items h v) items.items before (flushed_of_files site h legal.0 m items.items (last_batch h m) refl known.1) | false ↦ before ]
items_step site h e legal (ask.Reclaim who u) ek v w before = elim (u == v) as (λ b. AllOf (IsOfItsFile h) (if b then [] else tape_items h v)) [ true ↦ tt | false ↦ before ]
items_step site h e legal _ ek v w before = before

pub tape_of_files : (site : Site) (h : History) → IsLegal site h → (v : ℕ) → AllOf (IsOfItsFile h) (tape_items h v)
tape_of_files site [] legal v = tt
tape_of_files site (e ∷ h) legal v =
    all_mono (IsOfItsFile h) (IsOfItsFile (e ∷ h)) (tape_items (e ∷ h) v) (λ i p. sum_older e h i p)
    (items_step site h e legal e.ask refl v (tape_of_mount h (asked_mount e.ask)) (tape_of_files site h legal.0 v))

by_recursion : {A : Type 0} (P : A → Type 0) (xs : List A) → AllOf P xs → AllByRecursion P xs
by_recursion P [] all = tt
by_recursion P (x ∷ xs) all = (all.0, by_recursion P xs all.1)

pub items_are_of_files : ItemsAreOfFiles
items_are_of_files site h legal v = by_recursion (IsOfItsFile h) (tape_items h v) (tape_of_files site h legal v)
