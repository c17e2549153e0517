-- Batches and claims: what holds of the jobs of a queue holds of the items that a Claim takes of it.
use Rattle.std.proofs.Common.{◌≡◌, ℕ, zero, suc, ◌+◌, ◌-◌, ◌≤◌, ◌⊎◌, inl, inr, List, [], ◌∷◌, ◌++◌, Bool, true, false, not, refl, sym, ap, subst, arith, length}
use Rattle.std.specs.Prelude.{Option, Some, None, if◌then◌else◌, ◌==◌, nat_lt, nat_le, filter, map}
use Rattle.std.specs.List.{flat_map, range_with_len}
use Rattle.cta_site.specs.declared.site.Site.{Site}
use Rattle.cta_site.specs.Listed.{Listed}
use Rattle.cta_site.specs.Lookups.{capacity_of, pool_of_tape}
use Rattle.cta_model.specs.declared.asks.Ask.{Ask}
use Rattle.cta_model.specs.declared.asks.Ask.TheVariants as ask
use Rattle.cta_model.specs.declared.answers.Answer.{Answer}
use Rattle.cta_model.specs.declared.answers.Answer.TheVariants as answer
use Rattle.cta_model.specs.declared.answers.Refusal.TheVariants as refusal
use Rattle.cta_model.specs.declared.asks.Direction.{Direction}
use Rattle.cta_model.specs.declared.asks.Direction.TheVariants as direction
use Rattle.cta_model.specs.declared.asks.Job.{Job}
use Rattle.cta_model.specs.declared.asks.Item.{Item}
use Rattle.cta_model.specs.declared.states.Mount.{Mount}
use Rattle.cta_model.specs.History.{History, moment_of, entry_numbers}
use Rattle.cta_model.specs.Files.{size_of, sum_of, copy_numbers}
use Rattle.cta_model.specs.Mounts.{mount_of, is_open, last_batch, batch_in, batch_or, job_of}
use Rattle.cta_model.specs.Tapes.{used_bytes, next_fseq}
use Rattle.cta_model.specs.Space.{free_space, evictable_size}
use Rattle.cta_model.specs.Jobs.{jobs_born, jobs_for, may_bear, is_live_job}
use Rattle.cta_model.specs.Queues.{queue_of, is_queued}
use Rattle.cta_model.specs.Batches.{taken_of, written_items, read_items, insert_by_fseq, fseq_on, batch_of, batch_by}
use Rattle.cta_model.specs.Answers.{refuse, answer_of, claim_by, claim_answer, batch_answer, is_too_heavy}
use Rattle.cta_model.specs.Legal.{IsLegal}

abbrev pub AllOf : {A : Type 0} → (A → Type 0) → List A → Type 0
AllOf P [] = Unit {0}
AllOf P (x ∷ xs) = P x × AllOf P xs

pub all_append : {A : Type 0} (P : A → Type 0) (xs ys : List A) → AllOf P xs → AllOf P ys → AllOf P (xs ++ ys)
all_append P [] ys a b = b
all_append P (x ∷ xs) ys a b = (a.0, all_append P xs ys a.1 b)

pub all_filter : {A : Type 0} (P : A → Type 0) (test : A → Bool) (xs : List A) → AllOf P xs → AllOf P (filter test xs)
all_filter P test [] a = tt
all_filter P test (x ∷ xs) a = elim (test x) as (λ b. AllOf P (if b then x ∷ filter test xs else filter test xs)) [ true ↦ (a.0, all_filter P test xs a.1) | false ↦ all_filter P test xs a.1 ]

-- what passes a test passes it
pub all_pass : {A : Type 0} (test : A → Bool) (xs : List A) → AllOf (λ x. test x ≡ true) (filter test xs)
all_pass test [] = tt
all_pass test (x ∷ xs) =
    elim (bool_or (test x))
    [ inl hit ↦ rw hit (hit, all_pass test xs) | inr miss ↦ rw miss (all_pass test xs) ]
  where
    bool_or : (b : Bool) → (b ≡ true) ⊎ (b ≡ false)
    bool_or true = inl refl
    bool_or false = inr refl

pub all_mono : {A : Type 0} (P Q : A → Type 0) (xs : List A) → ((x : A) → P x → Q x) → AllOf P xs → AllOf Q xs
all_mono P Q [] f a = tt
all_mono P Q (x ∷ xs) f a = (f x a.0, all_mono P Q xs f a.1)

-- ---- jobs are of files of the history

abbrev pub Below : ℕ → Job → Type 0
Below n j = j.file ≤ n

abbrev pub ItemBelow : ℕ → Item → Type 0
ItemBelow n i = i.job.file ≤ n

pub copies_below : (birth f n : ℕ) (copies : List ℕ) → f ≤ n → AllOf (Below n) (map (job_of birth f) copies)
copies_below birth f n [] low = tt
copies_below birth f n (c ∷ copies) low = (low, copies_below birth f n copies low)

pub files_below : (site : Site) (h : History) (birth a k n : ℕ) → a + k ≤ n + 1 → AllOf (Below n) (flat_map (jobs_for site h birth) (range_with_len a k))
files_below site h birth a zero n low = tt
files_below site h birth a (suc k) n low =
    all_append (Below n) (jobs_for site h birth a) _ (copies_below birth a n (0 ∷ copy_numbers site h a) (omega arith)) (files_below site h birth (a + 1) k n (omega arith))

pub born_below : (site : Site) (h : History) → AllOf (Below (length h)) (jobs_born site h)
born_below site [] = tt
born_below site (e ∷ h) =
    all_append (Below (length (e ∷ h))) (jobs_born site h) _
    (all_mono (Below (length h)) (Below (length (e ∷ h))) (jobs_born site h) (λ j low. omega arith) (born_below site h))
    (elim (may_bear e.ask) as (λ t. AllOf (Below (length (e ∷ h))) (if t then filter (is_live_job site (e ∷ h)) (flat_map (jobs_for site (e ∷ h) (length h + 1)) (entry_numbers (e ∷ h))) else []))
    [ true ↦ all_filter (Below (length (e ∷ h))) (is_live_job site (e ∷ h)) (flat_map (jobs_for site (e ∷ h) (length h + 1)) (entry_numbers (e ∷ h))) (files_below site (e ∷ h) (length h + 1) 1 (length (e ∷ h)) (length (e ∷ h)) (omega arith)) | false ↦ tt ])

pub queue_below : (site : Site) (h : History) (way : Direction) (key : ℕ) → AllOf (Below (length h)) (queue_of site h way key)
queue_below site h way key = all_filter (Below (length h)) (is_queued site h way key) (jobs_born site h) (born_below site h)

-- ---- batches

pub taken_all : (P : Job → Type 0) (h : History) (count room : ℕ) (q : List Job) → AllOf P q → AllOf P (taken_of h count room q)
taken_all P h count room [] a = tt
taken_all P h zero room (j ∷ q) a = tt
taken_all P h (suc n) room (j ∷ q) a =
    elim (nat_le (size_of h j.file) room) as (λ t. AllOf P (if t then j ∷ taken_of h n (room - size_of h j.file) q else taken_of h (suc n) room q))
    [ true ↦ (a.0, taken_all P h n (room - size_of h j.file) q a.1) | false ↦ taken_all P h (suc n) room q a.1 ]

abbrev pub OfJob : (Job → Type 0) → Item → Type 0
OfJob P i = P i.job

pub written_all : (P : Job → Type 0) (h : History) (s : ℕ) (js : List Job) → AllOf P js → AllOf (OfJob P) (written_items h s js)
written_all P h s [] a = tt
written_all P h s (j ∷ js) a = (a.0, written_all P h (s + 1) js a.1)

pub insert_all : (P : Item → Type 0) (i : Item) (ks : List Item) → P i → AllOf P ks → AllOf P (insert_by_fseq i ks)
insert_all P i [] p a = (p, tt)
insert_all P i (k ∷ ks) p a = elim (nat_lt i.fseq k.fseq) as (λ t. AllOf P (if t then i ∷ k ∷ ks else k ∷ insert_by_fseq i ks)) [ true ↦ (p, a) | false ↦ (a.0, insert_all P i ks p a.1) ]

pub read_all : (P : Job → Type 0) (site : Site) (h : History) (v : ℕ) (js : List Job) → AllOf P js → AllOf (OfJob P) (read_items site h v js)
read_all P site h v [] a = tt
read_all P site h v (j ∷ js) a = insert_all (OfJob P) (record { job = j; fseq = fseq_on site h v j.file; sum = sum_of h j.file }) (read_items site h v js) a.0 (read_all P site h v js a.1)

-- what holds of the jobs of each queue holds of those of a batch
pub batch_all : (P : Job → Type 0) (site : Site) (h : History) (t : ℕ) (way : Direction) (v : ℕ) → ((key : ℕ) → AllOf P (queue_of site h way key)) → AllOf (OfJob P) (batch_by site h t way v)
batch_all P site h t direction.Archive v all = written_all P h (next_fseq h v) _ (taken_all P h site.limits.batch_files (capacity_of site v - used_bytes h v) (queue_of site h direction.Archive (pool_of_tape site v)) (all (pool_of_tape site v)))
batch_all P site h t direction.Retrieve v all = read_all P site h v _ (taken_all P h site.limits.batch_files (free_space site h + evictable_size site h t) (queue_of site h direction.Retrieve v) (all v))

-- ---- claims

abbrev pub IsBatch : Site → History → ℕ → Option Mount → List Item → Type 0
IsBatch site h t o items = (x : Mount) × (o ≡ Some x) × (items ≡ batch_of site h t x) × (1 ≤ length items)

pub batch_items : Answer → List Item
batch_items (answer.Batch items evicted) = items.items
batch_items _ = []

pub items_of : (site : Site) (h : History) (t : ℕ) (way : Direction) (b : List Item) (items : Listed Item) (evicted : Listed ℕ) → answer.Batch items evicted ≡ batch_answer site h t way b → (items.items ≡ b) × (1 ≤ length b)
unfolding batch_items
items_of site h t way [] items evicted e = absurd (cc)
items_of site h t direction.Archive (i ∷ b) items evicted e = (ap batch_items e, omega arith)
items_of site h t direction.Retrieve (i ∷ b) items evicted e = (ap batch_items e, omega arith)

pub claimed_by : (site : Site) (h : History) (t : ℕ) (heavy closed : Bool) (o : Option Mount) (items : Listed Item) (evicted : Listed ℕ) → answer.Batch items evicted ≡ refuse refusal.HistoryFull heavy (refuse refusal.Unknown closed (claim_by site h t o)) → IsBatch site h t o items.items
claimed_by site h t true closed o items evicted e = absurd (cc)
claimed_by site h t false true o items evicted e = absurd (cc)
claimed_by site h t false false None items evicted e = absurd (cc)
claimed_by site h t false false (Some x) items evicted e =
    let parts : (items.items ≡ batch_of site h t x) × (1 ≤ length (batch_of site h t x)) = items_of site h t x.direction (batch_of site h t x) items evicted e in
    (x, refl, parts.0, rw parts.0 parts.1)

-- an accepted Claim takes the batch of its mount, which is not empty
pub claim_is_batch : (site : Site) (h : History) (t m : ℕ) (items : Listed Item) (evicted : Listed ℕ) → answer.Batch items evicted ≡ answer_of site h t (ask.Claim m) → IsBatch site h (moment_of h t) (mount_of h m) items.items
claim_is_batch site h t m items evicted e = claimed_by site h (moment_of h t) (is_too_heavy site h (ask.Claim m) (claim_answer site h (moment_of h t) m)) (not (is_open h m)) (mount_of h m) items evicted e

pub open_by : (heavy is : Bool) (a b : Answer) (items : Listed Item) (evicted : Listed ℕ) → a ≡ answer.Batch items evicted → a ≡ refuse refusal.HistoryFull heavy (refuse refusal.Unknown (not is) b) → is ≡ true
open_by true is a b items evicted is_batch e = absurd (cc)
open_by false true a b items evicted is_batch e = refl
open_by false false a b items evicted is_batch e = absurd (cc)

-- the mount of an accepted Claim is open
pub claim_is_open : (site : Site) (h : History) (t m : ℕ) (items : Listed Item) (evicted : Listed ℕ) → answer.Batch items evicted ≡ answer_of site h t (ask.Claim m) → is_open h m ≡ true
claim_is_open site h t m items evicted e = open_by (is_too_heavy site h (ask.Claim m) (claim_answer site h (moment_of h t) m)) (is_open h m) (answer.Batch items evicted) (claim_by site h (moment_of h t) (mount_of h m)) items evicted refl e

-- what holds of the jobs of each queue holds of those of a Claim
pub claim_all : (P : Job → Type 0) (site : Site) (h : History) (t m : ℕ) (items : Listed Item) (evicted : Listed ℕ) → answer.Batch items evicted ≡ answer_of site h t (ask.Claim m) → ((way : Direction) (key : ℕ) → AllOf P (queue_of site h way key)) → AllOf (OfJob P) items.items
claim_all P site h t m items evicted e all =
    let is : IsBatch site h (moment_of h t) (mount_of h m) items.items = claim_is_batch site h t m items evicted e in
    subst (λ (xs : List Item). AllOf (OfJob P) xs) (sym is.2) (batch_all P site h (moment_of h t) is.0.direction is.0.tape (all is.0.direction))

-- the items of a mount's last Claim are of files of the history
pub last_step : (site : Site) (h : History) (t m : ℕ) (k : Ask) (a : Answer) (o : Option (List Item)) (items : List Item) → a ≡ answer_of site h t k → ((xs : List Item) → o ≡ Some xs → AllOf (ItemBelow (length h)) xs) → batch_or (batch_in k a m) o ≡ Some items → AllOf (ItemBelow (length h)) items
last_step site h t m (ask.Claim k) (answer.Batch xs evicted) o items legal older =
    elim (k == m) as (λ b. batch_or (if b then Some xs.items else None) o ≡ Some items → AllOf (ItemBelow (length h)) items)
    [ true ↦ λ e. (let same : xs.items ≡ items = cc in subst (λ (ys : List Item). AllOf (ItemBelow (length h)) ys) same (claim_all (Below (length h)) site h t k xs evicted legal (queue_below site h))) | false ↦ λ e. older items e ]
last_step site h t m _ a o items legal older = λ e. older items e

pub last_below : (site : Site) (h : History) → IsLegal site h → (m : ℕ) (items : List Item) → last_batch h m ≡ Some items → AllOf (ItemBelow (length h)) items
last_below site [] legal m items e = absurd (cc)
last_below site (e ∷ h) legal m items is =
    all_mono (ItemBelow (length h)) (ItemBelow (length (e ∷ h))) items (λ i low. omega arith)
    (last_step site h e.at m e.ask e.answer (last_batch h m) items legal.1.answered (λ xs x. last_below site h legal.0 m xs x) is)
