-- A history has at most twice as many entries as its site's limit, and its moments never fall.
use Rattle.std.proofs.Common.{◌≡◌, ℕ, zero, suc, ◌+◌, ◌≤◌, ◌<◌, inl, inr, List, [], ◌∷◌, ◌++◌, Bool, true, false, ◌&&◌, not, refl, sym, ap, subst, arith, length, length-append}
use Rattle.std.specs.Prelude.{Option, Some, None, if◌then◌else◌, ◌==◌, nat_lt, filter}
use Rattle.std.specs.List.{list_all}
use Rattle.std.proofs.lemmas.Bool.{and_parts, eq-eqb}
use Rattle.std.proofs.lemmas.Bool.Decides.{nat_tests, eqb_tells}
use Rattle.cta_site.specs.declared.site.Site.{Site}
use Rattle.cta_site.specs.Listed.{Listed}
use Rattle.cta_model.specs.declared.entries.Entry.{Entry}
use Rattle.cta_model.specs.declared.asks.Ask.{Ask}
use Rattle.cta_model.specs.declared.asks.Ask.TheVariants as ask
use Rattle.cta_model.specs.declared.answers.Answer.{Answer}
use Rattle.cta_model.specs.declared.answers.Answer.TheVariants as answer
use Rattle.cta_model.specs.declared.answers.Refusal.TheVariants as refusal
use Rattle.cta_model.specs.declared.asks.Job.{Job}
use Rattle.cta_model.specs.declared.asks.Item.{Item}
use Rattle.cta_model.specs.History.{History, moment_of, last_moment, weight_of, weight_of_entry, has_number, is_empty}
use Rattle.cta_model.specs.Mounts.{mount_of, open_mounts, open_after, claimed_items, claimed_after, without_jobs, has_job, item_jobs, same_job, is_open, last_batch, batch_in, batch_or, tape_of_mount, asked_mount}
use Rattle.cta_model.specs.Answers.{refuse, answer_of, light_answer, is_accepted, may_be_refused_for_weight, is_too_heavy, claims_all, names_twice, is_known, is_last_batch}
use Rattle.cta_model.specs.Legal.{IsLegal, IsNext, IsFit}
use Rattle.cta_laws.specs.Lengths.{StaysShort, MomentsNeverFall, FseqsAreLow}
use Rattle.cta_model.specs.Tapes.{tape_items, items_after}
use Rattle.cta_laws.proofs.JobLists.{filter_le, job_self, without_less, without_many}
use Rattle.cta_laws.proofs.Tests.{bool_cases, not_next}
use Rattle.cta_laws.proofs.OpenMounts.{AllUpTo, opens_up_to, open_older}
use Rattle.cta_laws.proofs.OnceLaw.{same_job_eq}
use Rattle.cta_laws.proofs.Claims.{IsBatch, claim_is_batch, claim_is_open}
use Rattle.cta_laws.proofs.PlaceLaw.{flushed_known}
use Rattle.cta_laws.proofs.FseqLaw.{any_filter, same_length}

-- ---- moments

pub moment_step : (site : Site) (h : History) (e : Entry) (n : ℕ) → IsNext site h e → n ≤ last_moment h → n ≤ e.at
moment_step site h e n next low = omega (arith, next.later)

pub moments_never_fall : MomentsNeverFall
moments_never_fall site [] h legal = omega arith
moments_never_fall site (e ∷ newer) h legal = moment_step site (newer ++ h) e (last_moment h) legal.1 (moments_never_fall site newer h legal.0)

-- ---- entries that may be refused for the weight weigh at most the limit

pub bounded_weight : History → ℕ
bounded_weight [] = 0
bounded_weight (e ∷ h) = (if may_be_refused_for_weight e.ask then weight_of_entry e.ask e.answer else 0) + bounded_weight h

pub bounded_le : (h : History) → bounded_weight h ≤ weight_of h
unfolding bounded_weight
bounded_le [] = omega arith
bounded_le (e ∷ h) = elim (may_be_refused_for_weight e.ask) as (λ b. (if b then weight_of_entry e.ask e.answer else 0) + bounded_weight h ≤ weight_of_entry e.ask e.answer + weight_of h) [ true ↦ omega (arith, bounded_le h) | false ↦ omega (arith, bounded_le h) ]

pub not_heavy : (heavy : Bool) (a b : Answer) → b ≡ refuse refusal.HistoryFull heavy a → is_accepted b ≡ true → (heavy ≡ false) × (b ≡ a)
not_heavy true a b e y = absurd (cc)
not_heavy false a b e y = (refl, e)

pub ltb_false : (a b : ℕ) → nat_lt a b ≡ false → b ≤ a
ltb_false a b e = grind (arith, nat_tests)

pub bounded_fits : (site : Site) (h : History) (e : Entry) → IsNext site h e → bounded_weight h ≤ site.limits.history → bounded_weight (e ∷ h) ≤ site.limits.history
unfolding bounded_weight
bounded_fits site h e next low =
    elim (bool_cases (may_be_refused_for_weight e.ask)) [
      | inl hit ↦
          (let light : Answer = light_answer site h (moment_of h e.at) e.ask in
          let parts : (is_too_heavy site h e.ask light ≡ false) × (e.answer ≡ light) = not_heavy (is_too_heavy site h e.ask light) light e.answer next.answered next.accepted in
          let small : is_too_heavy site h e.ask e.answer ≡ false = rw parts.1 parts.0 in
          let test : nat_lt site.limits.history (weight_of h + weight_of_entry e.ask e.answer) ≡ false = rw (hit, next.accepted) at small in
          let fits : weight_of h + weight_of_entry e.ask e.answer ≤ site.limits.history = ltb_false _ _ test in
          rw hit (omega (arith, fits, bounded_le h)))
      | inr miss ↦ rw miss (omega arith)
    ]

pub bounded_all : (site : Site) (h : History) → IsLegal site h → bounded_weight h ≤ site.limits.history
unfolding bounded_weight
bounded_all site [] legal = omega arith
bounded_all site (e ∷ h) legal = bounded_fits site h e legal.1 (bounded_all site h legal.0)

-- ---- sums over the numbers of mounts

pub sum_to : (ℕ → ℕ) → ℕ → ℕ
sum_to g zero = g zero
sum_to g (suc n) = sum_to g n + g (suc n)

pub sum_le : (g k : ℕ → ℕ) (n : ℕ) → ((m : ℕ) → m ≤ n → g m ≤ k m) → sum_to g n ≤ sum_to k n
unfolding sum_to
sum_le g k zero h = h zero (omega arith)
sum_le g k (suc n) h = omega (arith, sum_le g k n (λ m q. h m (omega arith)), h (suc n) (omega arith))

pub sum_one : (g k : ℕ → ℕ) (n i c d : ℕ) → i ≤ n → ((m : ℕ) → m ≤ n → (i == m) ≡ false → g m ≤ k m) → g i + d ≤ k i + c → sum_to g n + d ≤ sum_to k n + c
unfolding sum_to
sum_one g k zero i c d high h at = (let same : i ≡ 0 = omega arith in subst (λ (m : ℕ). g m + d ≤ k m + c) same at)
sum_one g k (suc n) i c d high h at =
    elim (eqb_tells i (suc n)) [
      | inl x ↦
          (let here : g (suc n) + d ≤ k (suc n) + c = subst (λ (m : ℕ). g m + d ≤ k m + c) x.1 at in
          let rest : sum_to g n ≤ sum_to k n = sum_le g k n (λ m q. h m (omega arith) (other m q x.1)) in
          omega arith)
      | inr x ↦ (let rest : sum_to g n + d ≤ sum_to k n + c = sum_one g k n i c d (within x.1) (λ m q e. h m (omega arith) e) at in omega (arith, h (suc n) (omega arith) x.0))
    ]
  where
    within : (i ≡ suc n → ⊥) → i ≤ n
    within ne = omega arith

    other : (m : ℕ) → m ≤ n → i ≡ suc n → (i == m) ≡ false
    other m q same = elim (eqb_tells i m) [ inl y ↦ (let bad : i ≡ m = y.1 in absurd (omega arith)) | inr y ↦ y.0 ]

pub one_if : Bool → ℕ
one_if true = 1
one_if false = 0

-- what a mount still owes: an entry for each item claimed, and one for its End
pub owed : History → ℕ → ℕ
owed h m = length (claimed_items h m) + one_if (is_open h m)

-- ---- what an entry does to the items claimed

pub has_first : (j : Job) (js : List Job) → has_job j (j ∷ js) ≡ true
has_first j js = rw (job_self j) refl

pub all_less : (js : List Job) (items : List Item) → 1 ≤ length js → list_all (λ j. has_job j (item_jobs items)) js ≡ true → length (without_jobs js items) + 1 ≤ length items
all_less [] items some all = absurd (omega arith)
all_less (j ∷ js) items some all = without_less (j ∷ js) items j (has_first j js) (and_parts _ _ all).0

-- ---- what has not begun owes nothing

pub open_none : (n m : ℕ) (ms : List ℕ) → AllUpTo n ms → n < m → has_number m ms ≡ false
open_none n m [] all high = refl
open_none n m (k ∷ ms) all high =
    elim (eqb_tells m k) [ inl x ↦ (let bad : m ≡ k = x.1 in let low : k ≤ n = all.0 in absurd (omega arith)) | inr x ↦ rw x.0 (open_none n m ms all.1 high) ]

pub claim_misses : (site : Site) (h : History) (t k m : ℕ) (items : Listed Item) (evicted : Listed ℕ) → answer.Batch items evicted ≡ answer_of site h t (ask.Claim k) → length h < m → (k == m) ≡ false
claim_misses site h t k m items evicted is high =
    let low : k ≤ length h = open_older h k (claim_is_open site h t k items evicted is) in
    elim (eqb_tells k m) [ inl x ↦ (let bad : k ≡ m = x.1 in absurd (omega arith)) | inr x ↦ x.0 ]

pub empty_if : (b : Bool) (js : List Job) → (if b then without_jobs js [] else []) ≡ []
empty_if true js = refl
empty_if false js = refl

pub nothing_claimed : (site : Site) (h : History) (t m : ℕ) (k : Ask) (a : Answer) (before : List Item) → a ≡ answer_of site h t k → length h < m → before ≡ [] → claimed_after k a m before ≡ []
nothing_claimed site h t m (ask.Claim k) (answer.Batch items evicted) before is high none = rw (claim_misses site h t k m items evicted is high) none
nothing_claimed site h t m (ask.Flushed k items) a before is high none = rw none (empty_if (k == m) (item_jobs items.items))
nothing_claimed site h t m (ask.Recalled k job) a before is high none = rw none (empty_if (k == m) (job ∷ []))
nothing_claimed site h t m (ask.Failed k f charged returned) a before is high none = rw none (empty_if (k == m) (charged.items ++ returned.items))
nothing_claimed site h t m _ a before is high none = none

pub claimed_new : (site : Site) (h : History) → IsLegal site h → (m : ℕ) → length h < m → claimed_items h m ≡ []
claimed_new site [] legal m high = refl
claimed_new site (e ∷ h) legal m high = nothing_claimed site h e.at m e.ask e.answer (claimed_items h m) legal.1.answered (omega arith) (claimed_new site h legal.0 m (omega arith))

-- ---- one entry

pub owed_after : History → Ask → Answer → ℕ → ℕ
owed_after h k a m = length (claimed_after k a m (claimed_items h m)) + one_if (has_number m (open_after k a (length h + 1) (open_mounts h)))

pub not_unknown : (is : Bool) (x b : Answer) → b ≡ refuse refusal.Unknown (not is) x → is_accepted b ≡ true → is ≡ true
not_unknown true x b e y = refl
not_unknown false x b e y = absurd (cc)

pub open_new : (h : History) → has_number (suc (length h)) (open_mounts h) ≡ false
open_new h = open_none (length h) (suc (length h)) (open_mounts h) (opens_up_to h) (omega arith)

pub same_new : (h : History) (k : ℕ) → k ≤ length h → (k == suc (length h)) ≡ false
same_new h k low = elim (eqb_tells k (suc (length h))) [ inl x ↦ (let bad : k ≡ suc (length h) = x.1 in absurd (omega arith)) | inr x ↦ x.0 ]

-- the mounts so far owe at most this much more, or this much less, where one of them is asked
pub if_same : (b : Bool) (xs ys : List Item) → b ≡ false → length (if b then xs else ys) ≡ length ys
if_same true xs ys e = absurd (cc)
if_same false xs ys e = refl

pub less_by : (h : History) (k i n : ℕ) (js : List Job) → length (without_jobs js (claimed_items h i)) + n ≤ length (claimed_items h i) → k ≡ i → length (if k == i then without_jobs js (claimed_items h i) else claimed_items h i) + n ≤ length (claimed_items h i)
less_by h k i n js less e = rw (eq-eqb k i e) less

-- an ask that resolves n jobs of an open mount
pub resolves : (h : History) (g : ℕ → ℕ) (i n : ℕ) (js : List Job) → is_open h i ≡ true → length (without_jobs js (claimed_items h i)) + n ≤ length (claimed_items h i) → ((m : ℕ) → g m ≡ length (if i == m then without_jobs js (claimed_items h m) else claimed_items h m) + one_if (has_number m (open_mounts h))) → sum_to g (length h) + n ≤ sum_to (owed h) (length h)
unfolding owed
resolves h g i n js op less is =
    let low : i ≤ length h = open_older h i op in
    let one : sum_to g (length h) + n ≤ sum_to (owed h) (length h) + 0 =
    sum_one g (owed h) (length h) i 0 n low
    (λ m q miss. rw (is m, if_same (i == m) (without_jobs js (claimed_items h m)) (claimed_items h m) miss) (omega arith))
    (rw (is i) (omega (arith, less_by h i i n js less refl))) in
    omega arith

pub resolved_new : (site : Site) (h : History) → IsLegal site h → (g : ℕ → ℕ) (i : ℕ) (js : List Job) → is_open h i ≡ true → ((m : ℕ) → g m ≡ length (if i == m then without_jobs js (claimed_items h m) else claimed_items h m) + one_if (has_number m (open_mounts h))) → g (suc (length h)) ≡ 0
unfolding one_if
resolved_new site h legal g i js op is = rw (is (suc (length h)), same_new h i (open_older h i op), claimed_new site h legal (suc (length h)) (omega arith), open_new h) refl

-- ---- a Flushed flushes something

pub last_some_step : (site : Site) (h : History) (t m : ℕ) (k : Ask) (a : Answer) (o : Option (List Item)) (items : List Item) → a ≡ answer_of site h t k → (o ≡ Some items → 1 ≤ length items) → batch_or (batch_in k a m) o ≡ Some items → 1 ≤ length items
last_some_step site h t m (ask.Claim k) (answer.Batch xs evicted) o items is older =
    elim (k == m) as (λ b. batch_or (if b then Some xs.items else None) o ≡ Some items → 1 ≤ length items) [
      | true ↦ λ e.
          (let same : xs.items ≡ items = cc in
          let b : IsBatch site h (moment_of h t) (mount_of h k) xs.items = claim_is_batch site h t k xs evicted is in
          subst (λ (ys : List Item). 1 ≤ length ys) same b.3)
      | false ↦ λ e. older e
    ]
last_some_step site h t m _ a o items is older = λ e. older e

pub last_some : (site : Site) (h : History) → IsLegal site h → (m : ℕ) (items : List Item) → last_batch h m ≡ Some items → 1 ≤ length items
last_some site [] legal m items e = absurd (cc)
last_some site (e ∷ h) legal m items is = last_some_step site h e.at m e.ask e.answer (last_batch h m) items legal.1.answered (λ q. last_some site h legal.0 m items q) is

pub flushed_some : (items : List Item) (o : Option (List Item)) → is_last_batch o items ≡ true → ((xs : List Item) → o ≡ Some xs → 1 ≤ length xs) → 1 ≤ length items
flushed_some items None e h = absurd (cc)
flushed_some items (Some xs) e h = rw (same_length items xs e) (h xs refl)

pub jobs_length : (items : List Item) → length (item_jobs items) ≡ length items
jobs_length [] = refl
jobs_length (i ∷ items) = ap suc (jobs_length items)

-- ---- the End of a mount

pub one_mono : (b c : Bool) → (b ≡ true → c ≡ true) → one_if b ≤ one_if c
unfolding one_if
one_mono true c h = (let is : c ≡ true = h refl in rw is (omega arith))
one_mono false c h = omega arith

pub filtered_out : (i : ℕ) (ms : List ℕ) → has_number i (filter (λ x. not (x == i)) ms) ≡ false
filtered_out i [] = refl
filtered_out i (m ∷ ms) =
    elim (eqb_tells m i)
    [ inl hit ↦ rw hit.0 (filtered_out i ms) | inr miss ↦ rw miss.0 (rw (turned miss.0) (filtered_out i ms)) ]
  where
    turned : (m == i) ≡ false → (i == m) ≡ false
    turned e = elim (eqb_tells i m) [ inl y ↦ (let back : m ≡ i = sym y.1 in let bad : m == i ≡ true = eq-eqb m i back in absurd (cc)) | inr y ↦ y.0 ]

pub filtered_none : (i m : ℕ) (ms : List ℕ) → has_number m ms ≡ false → has_number m (filter (λ x. not (x == i)) ms) ≡ false
filtered_none i m ms none =
    elim (bool_cases (has_number m (filter (λ x. not (x == i)) ms)))
    [ inl hit ↦ (let bad : has_number m ms ≡ true = any_filter (λ x. not (x == i)) m ms hit in absurd (cc)) | inr miss ↦ miss ]

-- ---- the step

pub Total : History → Ask → Answer → ℕ
Total h k a = sum_to (owed_after h k a) (length h) + owed_after h k a (suc (length h))

-- how much of what was owed an ask settles: each item of a Flushed, and one job or the End
pub spent : Ask → ℕ
spent (ask.Flushed m items) = length items.items
spent k = if may_be_refused_for_weight k then 0 else 1

pub gained : Ask → Answer → ℕ
gained k a = if may_be_refused_for_weight k then weight_of_entry k a else 0

pub resolved : (site : Site) (h : History) → IsLegal site h → (g : ℕ → ℕ) (i n : ℕ) (js : List Job) → is_open h i ≡ true → length (without_jobs js (claimed_items h i)) + n ≤ length (claimed_items h i) → ((m : ℕ) → g m ≡ length (if i == m then without_jobs js (claimed_items h m) else claimed_items h m) + one_if (has_number m (open_mounts h))) → n + (sum_to g (length h) + g (suc (length h))) ≤ sum_to (owed h) (length h) + 0
resolved site h legal g i n js op less is =
    let most : sum_to g (length h) + n ≤ sum_to (owed h) (length h) = resolves h g i n js op less is in
    let new : g (suc (length h)) ≡ 0 = resolved_new site h legal g i js op is in
    omega arith

-- an ask that resolves claims of a mount names jobs that it claims, of which there are some
pub known_less : (h : History) (i : ℕ) (js : List Job) → is_known h i js ≡ true → 1 ≤ length js → (is_open h i ≡ true) × (length (without_jobs js (claimed_items h i)) + 1 ≤ length (claimed_items h i))
known_less h i js known some =
    let parts : (is_open h i ≡ true) × ((claims_all h i js && not (names_twice js)) ≡ true) = and_parts _ _ known in
    (parts.0, all_less js (claimed_items h i) some (and_parts (claims_all h i js) _ parts.1).0)

pub step : (site : Site) (h : History) → IsLegal site h → (t : ℕ) (k : Ask) (a : Answer) → a ≡ answer_of site h t k → is_accepted a ≡ true → IsFit site h k → spent k + Total h k a ≤ sum_to (owed h) (length h) + gained k a
unfolding Total spent gained owed owed_after one_if
step site h legal t (ask.Flushed i items) a is y fit =
    let known : (is_known h i (item_jobs items.items) ≡ true) × (is_last_batch (last_batch h i) items.items ≡ true) = flushed_known site h t i items a is y in
    let parts = and_parts (is_open h i) _ known.0 in
    let named = and_parts (claims_all h i (item_jobs items.items)) _ parts.1 in
    let less : length (without_jobs (item_jobs items.items) (claimed_items h i)) + length (item_jobs items.items) ≤ length (claimed_items h i) = without_many (item_jobs items.items) (claimed_items h i) (not_named (names_twice (item_jobs items.items)) named.1) named.0 in
    resolved site h legal (owed_after h (ask.Flushed i items) a) i (length items.items) (item_jobs items.items) parts.0 (subst (λ (n : ℕ). length (without_jobs (item_jobs items.items) (claimed_items h i)) + n ≤ length (claimed_items h i)) (jobs_length items.items) less) (λ m. refl)
  where
    not_named : (b : Bool) → not b ≡ true → b ≡ false
    not_named true e = absurd (cc)
    not_named false e = refl
step site h legal t (ask.Recalled i job) a is y fit =
    let known : is_known h i (job ∷ []) ≡ true = not_unknown _ _ a is y in
    let less : (is_open h i ≡ true) × (length (without_jobs (job ∷ []) (claimed_items h i)) + 1 ≤ length (claimed_items h i)) = known_less h i (job ∷ []) known (omega arith) in
    resolved site h legal (owed_after h (ask.Recalled i job) a) i 1 (job ∷ []) less.0 less.1 (λ m. refl)
step site h legal t (ask.Failed i f charged returned) a is y fit =
    let js : List Job = charged.items ++ returned.items in
    let known : is_known h i (charged.items ++ returned.items) ≡ true = not_unknown _ answer.Done a is y in
    let less : (is_open h i ≡ true) × (length (without_jobs (charged.items ++ returned.items) (claimed_items h i)) + 1 ≤ length (claimed_items h i)) = known_less h i (charged.items ++ returned.items) known (omega (arith, fit.1, length-append charged.items returned.items)) in
    resolved site h legal (owed_after h (ask.Failed i f charged returned) a) i 1 (charged.items ++ returned.items) less.0 less.1 (λ m. refl)
step site h legal t (ask.End i f) a is y fit =
    let all : is_open h i && is_empty (claimed_items h i) ≡ true = not_unknown _ answer.Done a is y in
    let op : is_open h i ≡ true = (and_parts (is_open h i) _ all).0 in
    let most : sum_to (owed_after h (ask.End i f) a) (length h) + 1 ≤ sum_to (owed h) (length h) + 0 =
    sum_one (owed_after h (ask.End i f) a) (owed h) (length h) i 0 1 (open_older h i op)
    (λ m q miss. omega (arith, one_mono (has_number m (filter (λ x. not (x == i)) (open_mounts h))) (has_number m (open_mounts h)) (any_filter (λ x. not (x == i)) m (open_mounts h))))
    (rw (filtered_out i (open_mounts h), op) (omega arith)) in
    let new : owed_after h (ask.End i f) a (suc (length h)) ≡ 0 = rw (claimed_new site h legal (suc (length h)) (omega arith), filtered_none i (suc (length h)) (open_mounts h) (open_new h)) refl in
    omega arith
step site h legal t (ask.Next d) (answer.Mounted u way v) is y fit =
    let most : sum_to (owed_after h (ask.Next d) (answer.Mounted u way v)) (length h) ≤ sum_to (owed h) (length h) = sum_le _ _ (length h) (λ m q. rw (not_next m (length h) q) (omega arith)) in
    let new : owed_after h (ask.Next d) (answer.Mounted u way v) (suc (length h)) ≤ 1 = rw (claimed_new site h legal (suc (length h)) (omega arith)) (one_most _) in
    omega arith
  where
    one_most : (b : Bool) → 0 + one_if b ≤ 1
    one_most true = omega arith
    one_most false = omega arith
step site h legal t (ask.Claim i) (answer.Batch items evicted) is y fit =
    let op : is_open h i ≡ true = claim_is_open site h t i items evicted is in
    let most : sum_to (owed_after h (ask.Claim i) (answer.Batch items evicted)) (length h) + 0 ≤ sum_to (owed h) (length h) + length items.items =
    sum_one (owed_after h (ask.Claim i) (answer.Batch items evicted)) (owed h) (length h) i (length items.items) 0 (open_older h i op)
    (λ m q miss. rw miss (omega arith))
    (rw (eq-eqb i i refl) (omega (arith, length-append (claimed_items h i) items.items))) in
    let new : owed_after h (ask.Claim i) (answer.Batch items evicted) (suc (length h)) ≡ 0 = rw (same_new h i (open_older h i op), claimed_new site h legal (suc (length h)) (omega arith), open_new h) refl in
    omega arith
step site h legal t k a is y fit =
    let most : sum_to (owed_after h k a) (length h) ≤ sum_to (owed h) (length h) = sum_le _ _ (length h) (λ m q. omega arith) in
    let new : owed_after h k a (suc (length h)) ≡ 0 = rw (claimed_new site h legal (suc (length h)) (omega arith), open_new h) refl in
    omega arith

-- what all entries have settled
pub settled : History → ℕ
settled [] = 0
settled (e ∷ h) = spent e.ask + settled h

pub owes : (site : Site) (h : History) → IsLegal site h → settled h + sum_to (owed h) (length h) ≤ bounded_weight h
unfolding Total gained owed owed_after one_if sum_to settled bounded_weight
owes site [] legal = omega arith
owes site (e ∷ h) legal =
    let before : settled h + sum_to (owed h) (length h) ≤ bounded_weight h = owes site h legal.0 in
    let now : spent e.ask + Total h e.ask e.answer ≤ sum_to (owed h) (length h) + gained e.ask e.answer = step site h legal.0 e.at e.ask e.answer legal.1.answered legal.1.accepted legal.1.fit in
    omega arith

-- an entry is settled, or weighs something
settles : (site : Site) (h : History) → IsLegal site h → (t : ℕ) (k : Ask) (a : Answer) → a ≡ answer_of site h t k → is_accepted a ≡ true → 1 ≤ spent k + (if may_be_refused_for_weight k then weight_of_entry k a else 0)
unfolding spent
settles site h legal t (ask.Flushed m items) a is y =
    let known : (is_known h m (item_jobs items.items) ≡ true) × (is_last_batch (last_batch h m) items.items ≡ true) = flushed_known site h t m items a is y in
    let some : 1 ≤ length items.items = flushed_some items.items (last_batch h m) known.1 (λ xs q. last_some site h legal m xs q) in
    omega arith
settles site h legal t k a is y = omega arith

pub length_le : (site : Site) (h : History) → IsLegal site h → length h ≤ settled h + bounded_weight h
unfolding settled bounded_weight
length_le site [] legal = omega arith
length_le site (e ∷ h) legal = omega (arith, length_le site h legal.0, settles site h legal.0 e.at e.ask e.answer legal.1.answered legal.1.accepted)

pub stays_short : StaysShort
stays_short site h legal = omega (arith, length_le site h legal, owes site h legal, bounded_all site h legal)

-- ---- the items on a tape

items_settled_by : (k : Ask) (v w : ℕ) (before : List Item) → length (items_after k v w before) ≤ length before + spent k
unfolding spent
items_settled_by (ask.Flushed m items) v w before = elim (w == v) as (λ b. length (if b then before ++ items.items else before) ≤ length before + length items.items) [ true ↦ omega (arith, length-append before items.items) | false ↦ omega arith ]
items_settled_by (ask.Reclaim who u) v w before = elim (u == v) as (λ b. length (if b then [] else before) ≤ length before + 0) [ true ↦ omega arith | false ↦ omega arith ]
items_settled_by k v w before = omega arith

pub items_settled : (h : History) (v : ℕ) → length (tape_items h v) ≤ settled h
unfolding settled
items_settled [] v = omega arith
items_settled (e ∷ h) v = omega (arith, items_settled h v, items_settled_by e.ask v (tape_of_mount h (asked_mount e.ask)) (tape_items h v))

pub fseqs_are_low : FseqsAreLow
fseqs_are_low site h legal v = omega (arith, items_settled h v, owes site h legal, bounded_all site h legal)
