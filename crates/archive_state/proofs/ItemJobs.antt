-- The jobs of the items that a mount claims.
use Rattle.std.proofs.Common.{◌≡◌, ◌∙◌, ℕ, zero, suc, ◌+◌, ◌-◌, ◌<◌, ◌≤◌, inl, inr, List, [], ◌∷◌, ◌++◌, Bool, true, false, ◌&&◌, ◌||◌, not, refl, sym, ap, subst, arith, length, get_or, take, drop}
use Rattle.std.specs.Prelude.{if◌then◌else◌, ◌==◌, filter, map, reverse}
use Rattle.std.specs.List.{list_any}
use Rattle.std.proofs.lemmas.List.{map-append, reverse-append, take-append-drop}
use Rattle.cta_site.specs.declared.site.Site.{Site}
use Rattle.cta_model.specs.declared.entries.Entry.{Entry}
use Rattle.cta_model.specs.declared.asks.Ask.{Ask}
use Rattle.cta_model.specs.declared.asks.Ask.TheVariants as ask
use Rattle.cta_model.specs.declared.answers.Answer.{Answer}
use Rattle.cta_model.specs.declared.answers.Answer.TheVariants as answer
use Rattle.cta_model.specs.declared.asks.Job.{Job}
use Rattle.cta_model.specs.declared.asks.Item.{Item}
use Rattle.cta_model.specs.History.{History}
use Rattle.cta_model.specs.Jobs.{is_live_job, jobs_born, newly_born}
use Rattle.cta_model.specs.Legal.{IsLegal}
use Rattle.cta_model.specs.Mounts.{same_job, has_job, claimed_after, claimed_items, claims, is_open, item_jobs, without_jobs}
use Rattle.cta_model.specs.Bare.{bare_answer, bare_ask, bare_entry}
use Rattle.cta_model.specs.Newest.{history_in}
use Rattle.cta_model.proofs.Newest.{history_in-none, history_in-read, history_in-taken, length-history_in}
use Rattle.cta_laws.specs.Jobs.{count_job}
use Rattle.cta_laws.proofs.Tests.{any_append, bool_cases, or_left}
use Rattle.cta_laws.proofs.ClaimLaw.{claim_cases}
use Rattle.cta_laws.proofs.JobLists.{job_self}
use Rattle.cta_laws.proofs.LengthLaw.{claimed_new}
use Rattle.cta_laws.proofs.OpenMounts.{legal_older, open_older}
use Rattle.cta_laws.proofs.ClaimedOnce.{claims_once}
use Rattle.cta_laws.proofs.EndLaw.{claim_live}
use Rattle.cta_laws.proofs.StandLaw.{born_once, count_append}
use Rattle.part_model.specs.Order.{InOrder, insert_jobs, leave_out}
use Rattle.part_laws.proofs.Born.{born_order}
use Rattle.part_laws.proofs.Members.{counted_has}
use Rattle.part_laws.proofs.Orders.{has_filter, has_insert, one_order, order_filter, order_insert}
use Rattle.archive_state.specs.ClaimedJobs.{claimed_jobs, jobs_after}

-- ---- the jobs of items after an ask

-- whether one of the items has the job
items_have : (j : Job) (items : List Item) → list_any (λ (i : Item). same_job j i.job) items ≡ has_job j (item_jobs items)
items_have j [] = refl
items_have j (i ∷ items) = ap (λ (b : Bool). same_job j i.job || b) (items_have j items)

-- what is left where the jobs of items are taken out
pub leave_items : (items : List Item) (q : List Job) → filter (λ j. not (list_any (λ (i : Item). same_job j i.job) items)) q ≡ leave_out (item_jobs items) q
leave_items items [] = refl
leave_items items (j ∷ q) =
    rw (items_have j items) (elim (not (has_job j (item_jobs items))) as (λ b. (if b then j ∷ filter (λ j. not (list_any (λ (i : Item). same_job j i.job) items)) q else filter (λ j. not (list_any (λ (i : Item). same_job j i.job) items)) q) ≡ (if b then j ∷ leave_out (item_jobs items) q else leave_out (item_jobs items) q))
    [ true ↦ ap (λ (js : List Job). j ∷ js) (leave_items items q) | false ↦ leave_items items q ])

pub jobs_without : (js : List Job) (items : List Item) → item_jobs (without_jobs js items) ≡ leave_out js (item_jobs items)
jobs_without js [] = refl
jobs_without js (i ∷ items) = elim (not (has_job i.job js)) as (λ b. item_jobs (if b then i ∷ without_jobs js items else without_jobs js items) ≡ (if b then i.job ∷ leave_out js (item_jobs items) else leave_out js (item_jobs items)))
    [ true ↦ ap (λ (js : List Job). i.job ∷ js) (jobs_without js items) | false ↦ jobs_without js items ]

has_more : (j : Job) (xs ys : List Job) → has_job j (xs ++ ys) ≡ (has_job j xs || has_job j ys)
has_more j [] ys = refl
has_more j (x ∷ xs) ys = rw (has_more j xs ys) (more (same_job j x) (has_job j xs) (has_job j ys))
  where
    more : (a b c : Bool) → (a || (b || c)) ≡ ((a || b) || c)
    more true b c = refl
    more false b c = refl

-- jobs that are left out in turn
leave_twice : (xs ys q : List Job) → leave_out ys (leave_out xs q) ≡ leave_out (xs ++ ys) q
leave_twice xs ys [] = refl
leave_twice xs ys (j ∷ q) =
    elim (bool_cases (has_job j xs)) [
      | inl hit ↦ (let both : has_job j (xs ++ ys) ≡ true = has_more j xs ys ∙ or_left (has_job j xs) (has_job j ys) hit in rw (hit, both) (leave_twice xs ys q))
      | inr miss ↦
          (let same : has_job j (xs ++ ys) ≡ has_job j ys = has_more j xs ys ∙ ap (λ (b : Bool). b || has_job j ys) miss in
          elim (bool_cases (has_job j ys)) [
            | inl out ↦ (let both : has_job j (xs ++ ys) ≡ true = same ∙ out in rw (miss, both, out) (leave_twice xs ys q))
            | inr stays ↦ (let none : has_job j (xs ++ ys) ≡ false = same ∙ stays in rw (miss, none, stays) (ap (λ (js : List Job). j ∷ js) (leave_twice xs ys q)))
          ])
    ]

if_without : (b : Bool) (js : List Job) (items : List Item) → (if b then leave_out js (item_jobs items) else item_jobs items) ≡ item_jobs (if b then without_jobs js items else items)
if_without true js items = sym (jobs_without js items)
if_without false js items = refl

pub jobs_move : (k : Ask) (a : Answer) (m : ℕ) (before : List Item) → jobs_after k a m (item_jobs before) ≡ item_jobs (claimed_after k a m before)
jobs_move (ask.Claim k) (answer.Batch items evicted) m before = by (k == m)
  where
    by : (b : Bool) → (if b then item_jobs before ++ item_jobs items.items else item_jobs before) ≡ item_jobs (if b then before ++ items.items else before)
    by true = sym (map-append (λ (i : Item). i.job) before items.items)
    by false = refl
jobs_move (ask.Flushed k items) a m before = if_without (k == m) (item_jobs items.items) before
jobs_move (ask.Recalled k job) a m before = if_without (k == m) (job ∷ []) before
jobs_move (ask.Failed k f charged returned) a m before = by (k == m)
  where
    by : (b : Bool) → (if b then leave_out returned.items (leave_out charged.items (item_jobs before)) else item_jobs before) ≡ item_jobs (if b then without_jobs (charged.items ++ returned.items) before else before)
    by true = leave_twice charged.items returned.items (item_jobs before) ∙ sym (jobs_without (charged.items ++ returned.items) before)
    by false = refl
jobs_move _ a m before = refl

-- ---- claimed jobs were born

born_more : (site : Site) (h : History) (e : Entry) (j : Job) → has_job j (jobs_born site h) ≡ true → has_job j (jobs_born site (e ∷ h)) ≡ true
born_more site h e j there = any_append (same_job j) (jobs_born site h) (newly_born site h e) (inl there)

pub claimed_born : (site : Site) (h : History) → IsLegal site h → (m : ℕ) (j : Job) → claims h m j ≡ true → has_job j (jobs_born site h) ≡ true
claimed_born site [] legal m j c = absurd (cc)
claimed_born site (e ∷ h) legal m j c =
    elim (claim_cases e.ask e.answer m (claimed_items h m) j c) [
      | inl old ↦ born_more site h e j (claimed_born site h legal.0 m j old)
      | inr new ↦
          (let live : is_live_job site h j ≡ true = claim_live site h e.at e.ask e.answer j legal.1.answered new.0 in
          born_more site h e j (counted_has j (jobs_born site h) (born_once site h legal.0 j live)))
    ]

-- ---- a list that is put in order

has_of_insert : (j : Job) (js : List Job) → has_job j (insert_jobs js []) ≡ has_job j js
has_of_insert j [] = refl
has_of_insert j (k ∷ js) = has_insert j k (insert_jobs js []) ∙ ap (λ (b : Bool). same_job j k || b) (has_of_insert j js)

-- each job is there once at most
abbrev pub AreOnce : List Job → Type 0
AreOnce js = (j : Job) → count_job j js ≤ 1

counted : (j : Job) (js : List Job) → has_job j js ≡ true → 1 ≤ count_job j js
counted j [] there = absurd (cc)
counted j (k ∷ js) there =
    elim (bool_cases (same_job j k)) [
      | inl hit ↦ rw hit (omega arith)
      | inr miss ↦ (let rest : 1 ≤ count_job j js = counted j js (rw miss at there) in omega arith)
    ]

uncounted : (j : Job) (js : List Job) → count_job j js ≡ 0 → has_job j js ≡ false
uncounted j js none = elim (bool_cases (has_job j js)) [ inl there ↦ (let some : 1 ≤ count_job j js = counted j js there in absurd (omega arith)) | inr lacks ↦ lacks ]

rest_once : (k : Job) (js : List Job) → AreOnce (k ∷ js) → AreOnce js
rest_once k js once j = (let all : (if same_job j k then 1 else 0) + count_job j js ≤ 1 = once j in omega arith)

first_once : (k : Job) (js : List Job) → AreOnce (k ∷ js) → has_job k js ≡ false
first_once k js once =
    let all : (if same_job k k then 1 else 0) + count_job k js ≤ 1 = once k in
    let one : 1 + count_job k js ≤ 1 = rw (job_self k) at all in
    uncounted k js (omega arith)

order_of : (js : List Job) → AreOnce js → InOrder (insert_jobs js [])
order_of [] once = tt
order_of (k ∷ js) once = order_insert k (insert_jobs js []) (order_of js (rest_once k js once)) (has_of_insert k js ∙ first_once k js once)

reverse_first : (k : Job) (js : List Job) → reverse (k ∷ js) ≡ reverse js ++ k ∷ []
reverse_first k js = reverse-append (k ∷ []) js

has_reverse : (j : Job) (js : List Job) → has_job j (reverse js) ≡ has_job j js
has_reverse j [] = refl
has_reverse j (k ∷ js) = ap (has_job j) (reverse_first k js) ∙ (has_more j (reverse js) (k ∷ []) ∙ swap (has_job j (reverse js)) (same_job j k) (has_job j js) (has_reverse j js))
  where
    swap : (a b c : Bool) → a ≡ c → (a || (b || false)) ≡ (b || c)
    swap true true c e = refl
    swap true false c e = e
    swap false true c e = refl
    swap false false c e = e

count_reverse : (j : Job) (js : List Job) → count_job j (reverse js) ≡ count_job j js
count_reverse j [] = refl
count_reverse j (k ∷ js) = ap (count_job j) (reverse_first k js) ∙ omega (arith, count_append j (reverse js) (k ∷ []), count_reverse j js)

-- ---- the jobs that a mount claims

pub members : (site : Site) (h : History) → IsLegal site h → (m : ℕ) (j : Job) → has_job j (claimed_jobs site h m) ≡ claims h m j
members site h legal m j =
    has_filter (claims h m) j (jobs_born site h)
    ∙ elim (bool_cases (claims h m j)) [
      | inl hit ↦ rw (hit, claimed_born site h legal m j hit) refl
      | inr miss ↦ rw miss (none (has_job j (jobs_born site h)))
    ]
  where
    none : (b : Bool) → (b && false) ≡ false
    none true = refl
    none false = refl

pub sorted_is : (site : Site) (h : History) (xs : List Entry) (m : ℕ) (found js sorted : List Job) → IsLegal site h → history_in xs ≡ h → found ≡ item_jobs (claimed_items (history_in xs) m) → js ≡ found → sorted ≡ insert_jobs (reverse js) [] → sorted ≡ claimed_jobs site h m
sorted_is site h xs m found js sorted legal same there same_jobs is =
    let are : js ≡ item_jobs (claimed_items h m) = same_jobs ∙ (there ∙ ap (λ (x : History). item_jobs (claimed_items x m)) same) in
    let once : AreOnce (reverse js) =
    λ j.
    (let all : count_job j (item_jobs (claimed_items h m)) ≤ 1 = claims_once site h legal m j in
    let as_many : count_job j (reverse js) ≡ count_job j (item_jobs (claimed_items h m)) = count_reverse j js ∙ ap (count_job j) are in
    omega arith) in
    is
    ∙ one_order (insert_jobs (reverse js) []) (claimed_jobs site h m) (order_of (reverse js) once) (order_filter (claims h m) (jobs_born site h) (born_order site h))
    (λ j. has_of_insert j (reverse js) ∙ (has_reverse j js ∙ (ap (has_job j) are ∙ sym (members site h legal m j))))

-- ---- the loop over the entries

pub jobs_next : (xs : List Entry) (i m : ℕ) (e : Entry) (old new : List Job) → i < length xs → e ≡ get_or xs i e → old ≡ item_jobs (claimed_items (history_in (take i xs)) m) → new ≡ jobs_after (bare_ask e.ask) (bare_answer e.answer) m old
    → new ≡ item_jobs (claimed_items (history_in (take (i + 1) xs)) m)
jobs_next xs i m e old new inside read was is =
    is
    ∙ (ap (jobs_after (bare_ask e.ask) (bare_answer e.answer) m) was
    ∙ (jobs_move (bare_ask e.ask) (bare_answer e.answer) m (claimed_items (history_in (take i xs)) m)
    ∙ ap (λ (h : History). item_jobs (claimed_items h m)) (sym (history_in-read xs i e inside read))))

-- ---- the entries before a mount's

-- a part of the entries, oldest first, is an older history
taken_older : (xs : List Entry) (i : ℕ) → i ≤ length xs → (newer : History) × (history_in xs ≡ newer ++ history_in (take i xs))
unfolding history_in
taken_older xs i low =
    (reverse (map bare_entry (drop i xs)), ap (λ (ys : List Entry). reverse (map bare_entry ys)) (sym (take-append-drop i xs)) ∙ (ap (λ (ys : List Entry). reverse ys) (map-append bare_entry (take i xs) (drop i xs)) ∙ reverse-append (map bare_entry (take i xs)) (map bare_entry (drop i xs))))

before_first : (site : Site) (xs : List Entry) (i m : ℕ) → IsLegal site (history_in xs) → i < m → i ≤ length xs → claimed_items (history_in (take i xs)) m ≡ []
before_first site xs i m legal below low =
    let older : (newer : History) × (history_in xs ≡ newer ++ history_in (take i xs)) = taken_older xs i low in
    let was : IsLegal site (history_in (take i xs)) = legal_older site older.0 (history_in (take i xs)) (subst (IsLegal site) older.1 legal) in
    let few : length (history_in (take i xs)) ≡ i = history_in-taken xs i low in
    claimed_new site (history_in (take i xs)) was m (omega arith)

-- the entries before an open mount's are in the history
pub first_inside : (h : History) (xs : List Entry) (m i : ℕ) → is_open h m ≡ true → history_in xs ≡ h → i ≡ m - 1 → i ≤ length xs
first_inside h xs m i on same is =
    let low : m ≤ length h = open_older h m on in
    let all : length xs ≡ length h = sym (length-history_in xs) ∙ ap (λ (x : History). length x) same in
    omega arith

-- and none of them names the mount
pub nothing_before : (site : Site) (h : History) (xs : List Entry) (m i : ℕ) → IsLegal site h → is_open h m ≡ true → history_in xs ≡ h → i ≡ m - 1 → claimed_items (history_in (take i xs)) m ≡ []
nothing_before site h xs zero i legal on same is =
    let none : i ≡ 0 = omega arith in
    ap (λ (n : ℕ). claimed_items (history_in (take n xs)) 0) none ∙ ap (λ (h : History). claimed_items h 0) history_in-none
nothing_before site h xs (suc m) i legal on same is =
    before_first site xs i (suc m) (subst (IsLegal site) (sym same) legal) (omega arith) (first_inside h xs (suc m) i on same is)
