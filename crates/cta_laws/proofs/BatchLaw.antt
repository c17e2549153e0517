-- How many items a Claim takes, and a Flushed names.
use Rattle.std.proofs.Common.{◌≡◌, ℕ, zero, suc, ◌+◌, ◌-◌, ◌≤◌, inl, inr, List, [], ◌∷◌, true, false, refl, sym, ap, subst, arith, length, ◌∙◌}
use Rattle.std.specs.Prelude.{Option, Some, None, if◌then◌else◌, ◌==◌, nat_le, nat_lt}
use Rattle.cta_site.specs.declared.site.Site.{Site}
use Rattle.cta_site.specs.Listed.{Listed}
use Rattle.cta_site.specs.Lookups.{capacity_of, pool_of_tape}
use Rattle.cta_model.specs.declared.entries.Entry.{Entry}
use Rattle.cta_model.specs.declared.asks.Ask.{Ask}
use Rattle.cta_model.specs.declared.asks.Ask.TheVariants as ask
use Rattle.cta_model.specs.declared.asks.Direction.{Direction}
use Rattle.cta_model.specs.declared.asks.Direction.TheVariants as direction
use Rattle.cta_model.specs.declared.asks.Item.{Item}
use Rattle.cta_model.specs.declared.asks.Job.{Job}
use Rattle.cta_model.specs.declared.answers.Answer.{Answer}
use Rattle.cta_model.specs.declared.answers.Answer.TheVariants as answer
use Rattle.cta_model.specs.History.{History, moment_of}
use Rattle.cta_model.specs.Files.{size_of, sum_of}
use Rattle.cta_model.specs.Mounts.{mount_of, last_batch, batch_in, batch_or}
use Rattle.cta_model.specs.Tapes.{next_fseq, used_bytes}
use Rattle.cta_model.specs.Space.{free_space, evictable_size}
use Rattle.cta_model.specs.Queues.{queue_of}
use Rattle.cta_model.specs.Batches.{taken_of, written_items, read_items, insert_by_fseq, fseq_on, batch_by, batch_of}
use Rattle.cta_model.specs.Answers.{answer_of, is_last_batch}
use Rattle.cta_model.specs.Legal.{IsLegal}
use Rattle.cta_laws.specs.Lengths.{ClaimsAreShort, FlushesAreShort}
use Rattle.cta_laws.proofs.Claims.{IsBatch, claim_is_batch}
use Rattle.cta_laws.proofs.PlaceLaw.{flushed_known}
use Rattle.cta_laws.proofs.FseqLaw.{written_length, same_length}

taken_short : (h : History) (count room : ℕ) (q : List Job) → length (taken_of h count room q) ≤ count
taken_short h count room [] = omega arith
taken_short h zero room (j ∷ q) = omega arith
taken_short h (suc n) room (j ∷ q) =
    elim (nat_le (size_of h j.file) room) as (λ b. length (if b then j ∷ taken_of h n (room - size_of h j.file) q else taken_of h (suc n) room q) ≤ suc n)
    [ true ↦ omega (arith, taken_short h n (room - size_of h j.file) q) | false ↦ taken_short h (suc n) room q ]

insert_length : (i : Item) (ks : List Item) → length (insert_by_fseq i ks) ≡ suc (length ks)
insert_length i [] = refl
insert_length i (k ∷ ks) = elim (nat_lt i.fseq k.fseq) as (λ b. length (if b then i ∷ k ∷ ks else k ∷ insert_by_fseq i ks) ≡ suc (suc (length ks))) [ true ↦ refl | false ↦ ap suc (insert_length i ks) ]

read_length : (site : Site) (h : History) (v : ℕ) (js : List Job) → length (read_items site h v js) ≡ length js
read_length site h v [] = refl
read_length site h v (j ∷ js) = insert_length (record { job = j; fseq = fseq_on site h v j.file; sum = sum_of h j.file }) (read_items site h v js) ∙ ap suc (read_length site h v js)

batch_short : (site : Site) (h : History) (t : ℕ) (way : Direction) (v : ℕ) → length (batch_by site h t way v) ≤ site.limits.batch_files
batch_short site h t direction.Archive v =
    omega (arith, written_length h (next_fseq h v) (taken_of h site.limits.batch_files (capacity_of site v - used_bytes h v) (queue_of site h direction.Archive (pool_of_tape site v))), taken_short h site.limits.batch_files (capacity_of site v - used_bytes h v) (queue_of site h direction.Archive (pool_of_tape site v)))
batch_short site h t direction.Retrieve v =
    omega (arith, read_length site h v (taken_of h site.limits.batch_files (free_space site h + evictable_size site h t) (queue_of site h direction.Retrieve v)), taken_short h site.limits.batch_files (free_space site h + evictable_size site h t) (queue_of site h direction.Retrieve v))

claim_short : (site : Site) (h : History) (t m : ℕ) (items : Listed Item) (evicted : Listed ℕ) → answer.Batch items evicted ≡ answer_of site h t (ask.Claim m) → length items.items ≤ site.limits.batch_files
claim_short site h t m items evicted is =
    let b : IsBatch site h (moment_of h t) (mount_of h m) items.items = claim_is_batch site h t m items evicted is in
    subst (λ (xs : List Item). length xs ≤ site.limits.batch_files) (sym b.2) (batch_short site h (moment_of h t) b.0.direction b.0.tape)

pub claims_are_short : ClaimsAreShort
claims_are_short site h e legal m items evicted ek ea = claim_short site h e.at m items evicted (sym ea ∙ legal.1.answered ∙ ap (answer_of site h e.at) ek)

last_step : (site : Site) (h : History) (t m : ℕ) (k : Ask) (a : Answer) (o : Option (List Item)) (items : List Item) → a ≡ answer_of site h t k → (o ≡ Some items → length items ≤ site.limits.batch_files) → batch_or (batch_in k a m) o ≡ Some items → length items ≤ site.limits.batch_files
last_step site h t m (ask.Claim k) (answer.Batch xs evicted) o items is older =
    elim (k == m) as (λ b. batch_or (if b then Some xs.items else None) o ≡ Some items → length items ≤ site.limits.batch_files) [
      | true ↦ λ e. (let same : xs.items ≡ items = cc in subst (λ (ys : List Item). length ys ≤ site.limits.batch_files) same (claim_short site h t k xs evicted is))
      | false ↦ λ e. older e
    ]
last_step site h t m _ a o items is older = λ e. older e

pub last_short : (site : Site) (h : History) → IsLegal site h → (m : ℕ) (items : List Item) → last_batch h m ≡ Some items → length items ≤ site.limits.batch_files
last_short site [] legal m items e = absurd (cc)
last_short site (e ∷ h) legal m items is = last_step site h e.at m e.ask e.answer (last_batch h m) items legal.1.answered (λ q. last_short site h legal.0 m items q) is

flushed_short : (site : Site) (h : History) → IsLegal site h → (m : ℕ) (items : List Item) (o : Option (List Item)) → last_batch h m ≡ o → is_last_batch o items ≡ true → length items ≤ site.limits.batch_files
flushed_short site h legal m items None last e = absurd (cc)
flushed_short site h legal m items (Some xs) last e = omega (arith, same_length items xs e, last_short site h legal m xs last)

pub flushes_are_short : FlushesAreShort
flushes_are_short site h e legal m items ek =
    let known = flushed_known site h e.at m items e.answer (legal.1.answered ∙ ap (answer_of site h e.at) ek) legal.1.accepted in
    flushed_short site h legal.0 m items.items (last_batch h m) refl known.1
