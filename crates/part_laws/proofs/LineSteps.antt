-- The lines of queues: edits of lists of jobs are edits of lines, and what a line says of a job stays.
use Rattle.std.proofs.Common.{◌≡◌, ◌∙◌, ℕ, ◌+◌, ◌-◌, ◌≤◌, inl, inr, List, [], ◌∷◌, Bool, true, false, ◌&&◌, not, refl, sym, ap, subst, length}
use Rattle.std.specs.Prelude.{Option, Some, None, is_none, ◌==◌, filter, map}
use Rattle.std.proofs.lemmas.Bool.{and_parts, eqb-true, eq-eqb}
use Rattle.cta_site.specs.declared.site.Site.{Site}
use Rattle.cta_site.specs.Listed.{Listed}
use Rattle.cta_site.specs.Lookups.{pool_of_tape, capacity_of}
use Rattle.cta_model.specs.declared.entries.Entry.{Entry}
use Rattle.cta_model.specs.declared.asks.Direction.{Direction}
use Rattle.cta_model.specs.declared.asks.Item.{Item}
use Rattle.cta_model.specs.declared.asks.Job.{Job}
use Rattle.cta_model.specs.declared.states.Mount.{Mount}
use Rattle.cta_model.specs.History.{History, entry_of, moment_by, is_number, moment_of}
use Rattle.cta_model.specs.Files.{size_of}
use Rattle.cta_model.specs.Mounts.{mount_of, has_job, item_jobs, same_job, same_direction, claimer_of}
use Rattle.cta_model.specs.Tapes.{used_bytes, next_fseq}
use Rattle.cta_model.specs.Space.{free_space, evictable_size}
use Rattle.cta_model.specs.Policies.{policy_by, priority_in, age_in}
use Rattle.cta_model.specs.Queues.{queue_of, key_of, direction_of, is_queued}
use Rattle.cta_model.specs.Jobs.{is_live_job}
use Rattle.cta_model.specs.Choice.{key_of_mount}
use Rattle.cta_model.specs.Batches.{batch_by, taken_of}
use Rattle.cta_model.specs.Answers.{answer_of}
use Rattle.cta_model.specs.Legal.{IsLegal}
use Rattle.cta_laws.proofs.Tests.{bool_cases, or_left, or_right}
use Rattle.cta_laws.proofs.JobLists.{job_self}
use Rattle.cta_laws.proofs.QuotaLaw.{same_way}
use Rattle.cta_laws.proofs.Claims.{AllOf, OfJob, IsBatch, queue_below, taken_all, written_all, read_all, claim_is_batch}
use Rattle.cta_laws.proofs.EndLaw.{job_among}
use Rattle.cta_laws.proofs.Sums.{size_older}
use Rattle.cta_model.specs.declared.asks.Ask.TheVariants as ask
use Rattle.cta_model.specs.declared.answers.Answer.TheVariants as answer
use Rattle.cta_model.specs.declared.asks.Direction.TheVariants as direction
use Rattle.part_model.specs.declared.jobs.Line.{Line}
use Rattle.part_model.specs.Queues.{Lines, insert_line, taken_out}
use Rattle.part_model.specs.Order.{goes_before, insert_job}
use Rattle.part_laws.specs.Lines.{AreLines, line_of}
use Rattle.cta_laws.proofs.Sums.{entry_older}
use Rattle.part_laws.proofs.Births.{queue_low}
use Rattle.part_laws.proofs.Members.{queue_members}
use Rattle.part_laws.proofs.QueueSteps.{claim_queue}

-- ---- edits

pub map_leaves : (f : Job → Line) → ((j : Job) → (f j).job ≡ j) → (test : Job → Bool) (q : List Job) → map f (filter test q) ≡ filter (λ (l : Line). test l.job) (map f q)
map_leaves f is test [] = refl
map_leaves f is test (j ∷ q) =
    elim (bool_cases (test j)) [
      | inl hit ↦ (let here : test (f j).job ≡ true = ap test (is j) ∙ hit in rw (hit, here) (ap (λ (ls : List Line). f j ∷ ls) (map_leaves f is test q)))
      | inr miss ↦ (let here : test (f j).job ≡ false = ap test (is j) ∙ miss in rw (miss, here) (map_leaves f is test q))
    ]

pub map_inserts : (site : Site) (h : History) (way : Direction) (j : Job) (q : List Job) → map (line_of site h way) (insert_job j q) ≡ insert_line (line_of site h way j) (map (line_of site h way) q)
map_inserts site h way j [] = refl
map_inserts site h way j (k ∷ q) =
    elim (bool_cases (goes_before j k))
    [ inl first ↦ rw first refl | inr later ↦ rw later (ap (λ (ls : List Line). line_of site h way k ∷ ls) (map_inserts site h way j q)) ]

-- ---- what a line says of an older job

pub line_older : (site : Site) (e : Entry) (h : History) (way : Direction) (j : Job) → j.file ≤ length h → j.birth ≤ length h → line_of site (e ∷ h) way j ≡ line_of site h way j
line_older site e h way j file birth =
    (let size : size_of (e ∷ h) j.file ≡ size_of h j.file = size_older e h j.file file in
    let entry : entry_of (e ∷ h) j.birth ≡ entry_of h j.birth = entry_older e h j.birth birth in
    ap (λ (n : ℕ). record { job = j; len = n; born = moment_by (entry_of (e ∷ h) j.birth); priority = priority_in way (policy_by site (entry_of (e ∷ h) j.birth)); age = age_in way (policy_by site (entry_of (e ∷ h) j.birth)) }) size
    ∙ ap (λ (o : Option Entry). record { job = j; len = size_of h j.file; born = moment_by o; priority = priority_in way (policy_by site o); age = age_in way (policy_by site o) }) entry)

lines_map : (site : Site) (e : Entry) (h : History) (way : Direction) (q : List Job) → AllOf (λ (j : Job). j.file ≤ length h) q → AllOf (λ (j : Job). j.birth ≤ length h) q → map (line_of site (e ∷ h) way) q ≡ map (line_of site h way) q
lines_map site e h way [] files births = refl
lines_map site e h way (j ∷ q) files births = rw (line_older site e h way j files.0 births.0) (rw (lines_map site e h way q files.1 births.1) refl)

-- the lines of the older queue are the same after one more entry
pub lines_older : (site : Site) (e : Entry) (h : History) (way : Direction) (key : ℕ) → map (line_of site (e ∷ h) way) (queue_of site h way key) ≡ map (line_of site h way) (queue_of site h way key)
lines_older site e h way key = lines_map site e h way (queue_of site h way key) (queue_below site h way key) (queue_low site h way key)

-- where the queues stay, so do the lines
pub lines_stay : (site : Site) (e : Entry) (h : History) (way : Direction) (lines : Lines) → ((key : ℕ) → queue_of site (e ∷ h) way key ≡ queue_of site h way key) → AreLines site h way lines → AreLines site (e ∷ h) way lines
lines_stay site e h way lines same are key = are key ∙ sym (ap (map (line_of site (e ∷ h) way)) (same key) ∙ lines_older site e h way key)

-- where some leave the queues, their lines leave
pub lines_leave : (site : Site) (e : Entry) (h : History) (way : Direction) (lines : Lines) (keep : Job → Bool) → ((key : ℕ) → queue_of site (e ∷ h) way key ≡ filter keep (queue_of site h way key)) → AreLines site h way lines → AreLines site (e ∷ h) way (λ key. filter (λ (l : Line). keep l.job) (lines key))
lines_leave site e h way lines keep same are key =
    ap (filter (λ (l : Line). keep l.job)) (are key)
    ∙ sym (ap (map (line_of site (e ∷ h) way)) (same key) ∙ map_leaves (line_of site (e ∷ h) way) (λ j. refl) keep (queue_of site h way key) ∙ ap (filter (λ (l : Line). keep l.job)) (lines_older site e h way key))

-- where a job enters a queue, its line enters
pub lines_enter : (site : Site) (e : Entry) (h : History) (way : Direction) (key : ℕ) (ls : List Line) (j : Job) → queue_of site (e ∷ h) way key ≡ insert_job j (queue_of site h way key) → ls ≡ map (line_of site h way) (queue_of site h way key)
    → insert_line (line_of site (e ∷ h) way j) ls ≡ map (line_of site (e ∷ h) way) (queue_of site (e ∷ h) way key)
lines_enter site e h way key ls j same are =
    ap (insert_line (line_of site (e ∷ h) way j)) (are ∙ sym (lines_older site e h way key))
    ∙ sym (ap (map (line_of site (e ∷ h) way)) same ∙ map_inserts site (e ∷ h) way j (queue_of site h way key))

-- ---- the key of a batch

abbrev HasKey : Site → History → Direction → ℕ → Job → Type 0
HasKey site h way key j = is_queued site h way key j ≡ true

queued_all : (site : Site) (h : History) (way : Direction) (key : ℕ) (q : List Job) → ((j : Job) → has_job j q ≡ true → HasKey site h way key j) → AllOf (HasKey site h way key) q
queued_all site h way key [] f = tt
queued_all site h way key (j ∷ q) f = (f j (or_left (same_job j j) (has_job j q) (job_self j)), queued_all site h way key q (λ i there. f i (or_right (same_job i j) (has_job i q) there)))

queue_keys : (site : Site) (h : History) → IsLegal site h → (way : Direction) (key : ℕ) → AllOf (HasKey site h way key) (queue_of site h way key)
queue_keys site h legal way key = queued_all site h way key (queue_of site h way key) (λ j there. sym (queue_members site h legal way key j) ∙ there)

batch_keys : (site : Site) (h : History) → IsLegal site h → (t : ℕ) (way : Direction) (v : ℕ) → AllOf (OfJob (HasKey site h way (key_of_mount site way v))) (batch_by site h t way v)
batch_keys site h legal t direction.Archive v =
    written_all (HasKey site h direction.Archive (pool_of_tape site v)) h (next_fseq h v) (taken_of h site.limits.batch_files (capacity_of site v - used_bytes h v) (queue_of site h direction.Archive (pool_of_tape site v)))
    (taken_all (HasKey site h direction.Archive (pool_of_tape site v)) h site.limits.batch_files (capacity_of site v - used_bytes h v) (queue_of site h direction.Archive (pool_of_tape site v)) (queue_keys site h legal direction.Archive (pool_of_tape site v)))
batch_keys site h legal t direction.Retrieve v =
    read_all (HasKey site h direction.Retrieve v) site h v (taken_of h site.limits.batch_files (free_space site h + evictable_size site h t) (queue_of site h direction.Retrieve v))
    (taken_all (HasKey site h direction.Retrieve v) h site.limits.batch_files (free_space site h + evictable_size site h t) (queue_of site h direction.Retrieve v) (queue_keys site h legal direction.Retrieve v))

-- what a Claim takes was in the queue of its mount's key
pub claim_keys : (site : Site) (h : History) (t m : ℕ) (x : Mount) (items : Listed Item) (evicted : Listed ℕ) → IsLegal site h → answer.Batch items evicted ≡ answer_of site h t (ask.Claim m) → mount_of h m ≡ Some x
    → AllOf (OfJob (HasKey site h x.direction (key_of_mount site x.direction x.tape))) items.items
claim_keys site h t m x items evicted legal is mounted =
    (let b : IsBatch site h (moment_of h t) (mount_of h m) items.items = claim_is_batch site h t m items evicted is in
    let same : Some b.0 ≡ Some x = sym b.1 ∙ mounted in
    let one : b.0 ≡ x = cc in
    let all : AllOf (OfJob (HasKey site h b.0.direction (key_of_mount site b.0.direction b.0.tape))) items.items = subst (λ (xs : List Item). AllOf (OfJob (HasKey site h b.0.direction (key_of_mount site b.0.direction b.0.tape))) xs) (sym b.2) (batch_keys site h legal (moment_of h t) b.0.direction b.0.tape) in
    subst (λ (y : Mount). AllOf (OfJob (HasKey site h y.direction (key_of_mount site y.direction y.tape))) items.items) one all)

same_number : (a b : ℕ) (o : Option ℕ) → is_number a o ≡ true → is_number b o ≡ true → a ≡ b
same_number a b None p q = absurd (cc)
same_number a b (Some n) p q = eqb-true a n p ∙ sym (eqb-true b n q)

-- a job is in the queue of one direction and key
pub one_key : (site : Site) (h : History) (way other : Direction) (key k : ℕ) (j : Job) → is_queued site h way key j ≡ true → is_queued site h other k j ≡ true → (way ≡ other) × (key ≡ k)
one_key site h way other key k j p q =
    (let p1 : (same_direction way (direction_of j) ≡ true) × ((is_none (claimer_of h j) && is_number key (key_of site h j)) ≡ true) = and_parts _ _ (and_parts (is_live_job site h j) _ p).1 in
    let q1 : (same_direction other (direction_of j) ≡ true) × ((is_none (claimer_of h j) && is_number k (key_of site h j)) ≡ true) = and_parts _ _ (and_parts (is_live_job site h j) _ q).1 in
    (same_way way (direction_of j) p1.0 ∙ sym (same_way other (direction_of j) q1.0), same_number key k (key_of site h j) (and_parts (is_none (claimer_of h j)) _ p1.1).1 (and_parts (is_none (claimer_of h j)) _ q1.1).1))

pub filter_all : (test : Job → Bool) (q : List Job) → ((j : Job) → has_job j q ≡ true → test j ≡ true) → filter test q ≡ q
filter_all test [] pass = refl
filter_all test (j ∷ q) pass = rw (pass j (or_left (same_job j j) (has_job j q) (job_self j))) (ap (λ (js : List Job). j ∷ js) (filter_all test q (λ i there. pass i (or_right (same_job i j) (has_job i q) there))))

not_in : (b : Bool) → (b ≡ true → ⊥) → not b ≡ true
not_in true never = absurd (never refl)
not_in false never = refl

-- a Claim takes its batch out of the queue of its mount's key, and leaves all others
pub claim_others : (site : Site) (h : History) (e : Entry) (m : ℕ) (x : Mount) (items : Listed Item) (evicted : Listed ℕ) → IsLegal site (e ∷ h) → e.ask ≡ ask.Claim m → e.answer ≡ answer.Batch items evicted → mount_of h m ≡ Some x
    → (way : Direction) (k : ℕ) → ((way ≡ x.direction) × (k ≡ key_of_mount site x.direction x.tape) → ⊥) → queue_of site (e ∷ h) way k ≡ queue_of site h way k
claim_others site h e m x items evicted legal ek ea mounted way k other =
    claim_queue site h e m items evicted legal ek ea way k
    ∙ filter_all (λ j. not (has_job j (item_jobs items.items))) (queue_of site h way k) (λ j there. not_in (has_job j (item_jobs items.items)) (λ named. other (parts j there named)))
  where
    is : answer.Batch items evicted ≡ answer_of site h e.at (ask.Claim m)
    is = sym ea ∙ legal.1.answered ∙ ap (answer_of site h e.at) ek

    parts : (j : Job) → has_job j (queue_of site h way k) ≡ true → has_job j (item_jobs items.items) ≡ true → (way ≡ x.direction) × (k ≡ key_of_mount site x.direction x.tape)
    parts j there named =
        one_key site h way x.direction k (key_of_mount site x.direction x.tape) j (sym (queue_members site h legal.0 way k j) ∙ there)
        (job_among (HasKey site h x.direction (key_of_mount site x.direction x.tape)) items.items (claim_keys site h e.at m x items evicted legal.0 is mounted) j named)

pub lines_claim : (site : Site) (h : History) (e : Entry) (m : ℕ) (x : Mount) (items : Listed Item) (evicted : Listed ℕ) (lines : Lines) → IsLegal site (e ∷ h) → e.ask ≡ ask.Claim m → e.answer ≡ answer.Batch items evicted → mount_of h m ≡ Some x
    → AreLines site h x.direction lines → AreLines site (e ∷ h) x.direction (taken_out (key_of_mount site x.direction x.tape) (item_jobs items.items) lines)
lines_claim site h e m x items evicted lines legal ek ea mounted are k =
    elim (bool_cases (k == key_of_mount site x.direction x.tape)) [
      | inl hit ↦ rw hit (lines_leave site e h x.direction lines (λ j. not (has_job j (item_jobs items.items))) (λ key. claim_queue site h e m items evicted legal ek ea x.direction key) are k)
      | inr miss ↦
          rw miss (are k ∙ sym (ap (map (line_of site (e ∷ h) x.direction)) (claim_others site h e m x items evicted legal ek ea mounted x.direction k (λ p. differs p.1 miss)) ∙ lines_older site e h x.direction k))
    ]
  where
    differs : k ≡ key_of_mount site x.direction x.tape → (k == key_of_mount site x.direction x.tape) ≡ false → ⊥
    differs same miss = (let hit : (k == key_of_mount site x.direction x.tape) ≡ true = eq-eqb k (key_of_mount site x.direction x.tape) same in absurd (cc))
