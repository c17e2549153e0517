-- Calls for the items of a list, one behind the other.
use Rattle.std.proofs.Common.{◌≡◌, ◌∙◌, ◌+◌, ◌<◌, ℕ, List, [], ◌∷◌, ◌++◌, Bool, true, false, refl, sym, ap, subst, length, take}
use Rattle.std.specs.Prelude.{filter, get_or, if◌then◌else◌, ◌==◌, not}
use Rattle.std.proofs.lemmas.List.{take_more}
use Rattle.cta_model.specs.declared.asks.Item.{Item}
use Rattle.cta_model.specs.declared.asks.Job.{Job}
use Rattle.cta_model.specs.Mounts.{has_job, item_jobs}
use Rattle.part_model.specs.declared.jobs.Line.{Line}
use Rattle.part_model.specs.JobBook.{Book, TellSame, claim_jobs}
use Rattle.part_model.specs.Queues.{Lines, taken_out}
use Rattle.part_laws.proofs.BookSteps.{claim_same, tell_chain}
use Rattle.part_laws.proofs.TurnLaws.{book_calls_in_turn, queue_calls_in_turn}

jobs_last : (items : List Item) (i : Item) → item_jobs (items ++ i ∷ []) ≡ item_jobs items ++ i.job ∷ []
jobs_last [] i = refl
jobs_last (k ∷ items) i = ap (λ (js : List Job). k.job ∷ js) (jobs_last items i)

-- the jobs of the items up to one more
jobs_more : (items : List Item) (k : ℕ) (d : Item) → k < length items → item_jobs (take (k + 1) items) ≡ item_jobs (take k items) ++ (get_or items k d).job ∷ []
jobs_more items k d low = ap item_jobs (take_more items k d low) ∙ jobs_last (take k items) (get_or items k d)

-- ---- queues

stays : (ls : List Line) → filter (λ (l : Line). not (has_job l.job [])) ls ≡ ls
stays [] = refl
stays (l ∷ ls) = ap (λ (ks : List Line). l ∷ ks) (stays ls)

-- no job is taken out
pub taken_none : (key : ℕ) (lines : Lines) (k : ℕ) → lines k ≡ taken_out key [] lines k
taken_none key lines k = by (k == key)
  where
    by : (b : Bool) → lines k ≡ (if b then filter (λ (l : Line). not (has_job l.job [])) (lines k) else lines k)
    by true = sym (stays (lines k))
    by false = refl

-- one job more is taken out
pub taken_more : (key : ℕ) (items : List Item) (n : ℕ) (d : Item) (first before after : Lines) → n < length items
    → ((k : ℕ) → before k ≡ taken_out key (item_jobs (take n items)) first k) → ((k : ℕ) → after k ≡ taken_out key ((get_or items n d).job ∷ []) before k)
    → (k : ℕ) → after k ≡ taken_out key (item_jobs (take (n + 1) items)) first k
taken_more key items n d first before after low was now k =
    now k
    ∙ ap (λ (ls : List Line). if k == key then filter (λ (l : Line). not (has_job l.job ((get_or items n d).job ∷ []))) ls else ls) (was k)
    ∙ queue_calls_in_turn (item_jobs (take n items)) (get_or items n d).job key first k
    ∙ ap (λ (js : List Job). taken_out key js first k) (sym (jobs_more items n d low))

-- ---- the job book

-- no job is claimed
pub claimed_none : (m : ℕ) (b : Book) → TellSame b (claim_jobs [] m b)
claimed_none m b = record { recall = λ f. refl; archive = λ f c. refl; claimer = λ j. refl; charges = λ j. refl; last_birth = λ f c. refl; named = λ j. refl }

-- one job more is claimed
pub claimed_more : (m : ℕ) (items : List Item) (n : ℕ) (d : Item) (first before after : Book) → n < length items → TellSame before (claim_jobs (item_jobs (take n items)) m first)
    → TellSame after (claim_jobs ((get_or items n d).job ∷ []) m before) → TellSame after (claim_jobs (item_jobs (take (n + 1) items)) m first)
claimed_more m items n d first before after low was now =
    subst (λ (js : List Job). TellSame after (claim_jobs js m first)) (sym (jobs_more items n d low))
    (tell_chain _ _ _ now (tell_chain _ _ _ (claim_same ((get_or items n d).job ∷ []) m before (claim_jobs (item_jobs (take n items)) m first) was) ((book_calls_in_turn (item_jobs (take n items)) (get_or items n d).job first).claims m)))
