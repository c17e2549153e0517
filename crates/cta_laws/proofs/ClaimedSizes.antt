-- The bytes that open mounts claim, after one more entry.
use Rattle.std.proofs.Common.{◌≡◌, ℕ, ◌+◌, ◌≤◌, inl, inr, List, [], ◌∷◌, ◌++◌, Bool, true, false, ◌||◌, not, refl, ◌∙◌, ap, arith, length}
use Rattle.std.specs.Prelude.{Option, if◌then◌else◌, ◌==◌, ◌&&◌, filter}
use Rattle.std.proofs.lemmas.Bool.{and_parts, eqb-true, eq-eqb}
use Rattle.cta_site.specs.declared.site.Site.{Site}
use Rattle.cta_model.specs.declared.entries.Entry.{Entry}
use Rattle.cta_model.specs.declared.asks.Ask.{Ask}
use Rattle.cta_model.specs.declared.answers.Answer.{Answer}
use Rattle.cta_model.specs.declared.asks.Item.{Item}
use Rattle.cta_model.specs.declared.asks.Job.{Job}
use Rattle.cta_model.specs.declared.states.Mount.{Mount}
use Rattle.cta_model.specs.History.{History, has_number, is_empty}
use Rattle.cta_model.specs.Files.{size_of}
use Rattle.cta_model.specs.Mounts.{mount_of, is_mount, is_open, open_mounts, open_after, open_where, claimed_items, without_jobs, item_jobs}
use Rattle.cta_model.specs.Tapes.{size_of_items}
use Rattle.cta_model.specs.Answers.{answer_of, is_accepted, is_known, claims_all, names_twice}
use Rattle.cta_model.specs.Legal.{IsLegal}
use Rattle.cta_laws.proofs.Tests.{bool_cases, or_left}
use Rattle.cta_laws.proofs.OpenMounts.{mount_older, open_older}
use Rattle.cta_laws.proofs.Claims.{claim_is_open}
use Rattle.cta_laws.proofs.LengthLaw.{claimed_new, not_unknown}
use Rattle.cta_laws.proofs.PlaceLaw.{flushed_known}
use Rattle.cta_laws.proofs.Sums.{total, total_is, total_append, total_filter, open_distinct, size_in, size_is, claimed_of_file, file_size}
use Rattle.cta_laws.proofs.Loads.{known_parts, after_is, claim_others, claim_here}
use Rattle.cta_model.specs.declared.asks.Ask.TheVariants as ask
use Rattle.cta_model.specs.declared.answers.Answer.TheVariants as answer
use Rattle.cta_laws.proofs.Loads.{total_same}
use Rattle.cta_laws.proofs.ClaimedOnce.{all_exact, claims_once, total_one_exact}
use Rattle.cta_laws.specs.Claims.{claimed_by, ended_jobs, is_asked, size_of_jobs, claimed_total}

-- what a mount claims, where it passes the test
unfoldable pub held : (Mount → Bool) → History → ℕ → ℕ
held test h m = if is_mount test (mount_of h m) then total size_in (claimed_items h m) else 0

pub total_equal : (g k : ℕ → ℕ) (ms : List ℕ) → ((m : ℕ) → has_number m ms ≡ true → g m ≡ k m) → total g ms ≡ total k ms
unfolding total
total_equal g k [] h = refl
total_equal g k (m ∷ ms) h =
    let here : g m ≡ k m = h m (or_left (m == m) _ (eq-eqb m m refl)) in
    let rest : total g ms ≡ total k ms = total_equal g k ms (λ n x. h n (later (n == m) n x)) in
    omega arith
  where
    later : (b : Bool) (n : ℕ) → has_number n ms ≡ true → (b || has_number n ms) ≡ true
    later true n e = refl
    later false n e = e

pub total_less_one : (g : ℕ → ℕ) (i : ℕ) (ms : List ℕ) → g i ≡ 0 → total g (filter (λ k. not (k == i)) ms) ≡ total g ms
unfolding total
total_less_one g i [] z = refl
total_less_one g i (m ∷ ms) z =
    elim (bool_cases (m == i)) [
      | inl hit ↦ (let same : m ≡ i = eqb-true m i hit in rw hit (omega (arith, ap g same, total_less_one g i ms z)))
      | inr miss ↦ rw miss (omega (arith, total_less_one g i ms z))
    ]

pub claimed_is : (test : Mount → Bool) (h : History) → claimed_total test h ≡ total (held test h) (open_mounts h)
unfolding held
claimed_is test h =
    total_is (λ m. size_of_items (claimed_items h m)) (open_where test h)
    ∙ total_filter (λ m. size_of_items (claimed_items h m)) (λ m. is_mount test (mount_of h m)) (open_mounts h)
    ∙ total_same (λ m. if is_mount test (mount_of h m) then size_of_items (claimed_items h m) else 0) (held test h) (open_mounts h) (λ m. ap (λ (n : ℕ). if is_mount test (mount_of h m) then n else 0) (size_is (claimed_items h m)))

-- a mount that claims as before
pub held_same : (test : Mount → Bool) (e : Entry) (h : History) (m : ℕ) → m ≤ length h → claimed_items (e ∷ h) m ≡ claimed_items h m → held test (e ∷ h) m ≡ held test h m
unfolding held
held_same test e h m low same = ap (λ (o : Option Mount). if is_mount test o then total size_in (claimed_items (e ∷ h) m) else 0) (mount_older e h m low) ∙ ap (λ (xs : List Item). if is_mount test (mount_of h m) then total size_in xs else 0) same

-- the mount that an entry is about
pub held_one : (test : Mount → Bool) (e : Entry) (h : History) (m c d : ℕ) → m ≤ length h → total size_in (claimed_items (e ∷ h) m) + d ≡ total size_in (claimed_items h m) + c → held test (e ∷ h) m + (if is_mount test (mount_of h m) then d else 0) ≡ held test h m + (if is_mount test (mount_of h m) then c else 0)
unfolding held
held_one test e h m c d low exact =
    rw (mount_older e h m low) (elim (is_mount test (mount_of h m)) as (λ b. (if b then total size_in (claimed_items (e ∷ h) m) else 0) + (if b then d else 0) ≡ (if b then total size_in (claimed_items h m) else 0) + (if b then c else 0)) [ true ↦ exact | false ↦ refl ])

-- an entry about the open mount m, which leaves the open mounts and what others claim
pub one_step : (test : Mount → Bool) (e : Entry) (h : History) (m c d : ℕ) → is_open h m ≡ true → ((n : ℕ) → (m == n) ≡ false → claimed_items (e ∷ h) n ≡ claimed_items h n) → total size_in (claimed_items (e ∷ h) m) + d ≡ total size_in (claimed_items h m) + c → total (held test (e ∷ h)) (open_mounts h) + (if is_mount test (mount_of h m) then d else 0) ≡ total (held test h) (open_mounts h) + (if is_mount test (mount_of h m) then c else 0)
one_step test e h m c d op others exact =
    let sums : total (held test (e ∷ h)) (open_mounts h) + held test h m ≡ total (held test h) (open_mounts h) + held test (e ∷ h) m =
    total_one_exact (held test (e ∷ h)) (held test h) m (open_mounts h) (open_distinct h) op (λ n there miss. held_same test e h n (open_older h n there) (others n miss)) in
    let one = held_one test e h m c d (open_older h m op) exact in
    omega (arith, one)

pub Exact : (Mount → Bool) → Entry → History → Ask → Answer → Type 0
Exact test e h k a = total (held test (e ∷ h)) (open_after k a (length h + 1) (open_mounts h)) + (if is_asked test h k then size_of_jobs h (ended_jobs k) else 0) ≡ total (held test h) (open_mounts h) + (if is_asked test h k then size_of_items (claimed_by k a) else 0)

pub jobs_total : (h : History) (js : List Job) → size_of_jobs h js ≡ total (file_size h) js
jobs_total h js = total_is (λ (j : Job). size_of h j.file) js

pub if_none : (b : Bool) → ◌≡◌ {A = ℕ} (if b then 0 else 0) 0
if_none true = refl
if_none false = refl

-- what ends claims of an open mount
pub gives : (test : Mount → Bool) (site : Site) (h : History) (e : Entry) (m : ℕ) (js : List Job) → IsLegal site h → is_known h m js ≡ true → ((n : ℕ) → claimed_items (e ∷ h) n ≡ (if m == n then without_jobs js (claimed_items h n) else claimed_items h n)) → total (held test (e ∷ h)) (open_mounts h) + (if is_mount test (mount_of h m) then size_of_jobs h js else 0) ≡ total (held test h) (open_mounts h) + (if is_mount test (mount_of h m) then 0 else 0)
gives test site h e m js legal known after =
    let parts : (is_open h m ≡ true) × ((claims_all h m js ≡ true) × (names_twice js ≡ false)) = known_parts h m js known in
    let here : claimed_items (e ∷ h) m ≡ without_jobs js (claimed_items h m) = after m ∙ same (m == m) (eq-eqb m m refl) in
    let out : total size_in (without_jobs js (claimed_items h m)) + total (file_size h) js ≡ total size_in (claimed_items h m) = all_exact h js (claimed_items h m) (claimed_of_file site h legal m) (claims_once site h legal m) parts.1.0 parts.1.1 in
    let exact : total size_in (claimed_items (e ∷ h) m) + size_of_jobs h js ≡ total size_in (claimed_items h m) + 0 = rw here (omega (arith, out, jobs_total h js)) in
    one_step test e h m 0 (size_of_jobs h js) parts.0 (λ n miss. after n ∙ other (m == n) n miss) exact
  where
    same : (b : Bool) → b ≡ true → (if b then without_jobs js (claimed_items h m) else claimed_items h m) ≡ without_jobs js (claimed_items h m)
    same true x = refl
    same false x = absurd (cc)

    other : (b : Bool) (n : ℕ) → b ≡ false → (if b then without_jobs js (claimed_items h n) else claimed_items h n) ≡ claimed_items h n
    other true n x = absurd (cc)
    other false n x = refl

-- an entry that leaves all claims
pub none_moved : (test : Mount → Bool) (e : Entry) (h : History) → ((n : ℕ) → claimed_items (e ∷ h) n ≡ claimed_items h n) → total (held test (e ∷ h)) (open_mounts h) ≡ total (held test h) (open_mounts h)
none_moved test e h same = total_equal (held test (e ∷ h)) (held test h) (open_mounts h) (λ m there. held_same test e h m (open_older h m there) (same m))

pub held_none : (test : Mount → Bool) (h : History) (m : ℕ) → claimed_items h m ≡ [] → held test h m ≡ 0
unfolding held total
held_none test h m none = ap (λ (xs : List Item). if is_mount test (mount_of h m) then total size_in xs else 0) none ∙ if_none (is_mount test (mount_of h m))

pub is_nil : (xs : List Item) → is_empty xs ≡ true → xs ≡ []
is_nil [] e = refl
is_nil (x ∷ xs) e = absurd (cc)

pub step : (test : Mount → Bool) (site : Site) (h : History) (e : Entry) (k : Ask) (a : Answer) → IsLegal site h → e.ask ≡ k → e.answer ≡ a → a ≡ answer_of site h e.at k → is_accepted a ≡ true → Exact test e h k a
unfolding Exact total
step test site h e (ask.Flushed m items) a legal ek ea is y =
    gives test site h e m (item_jobs items.items) legal (flushed_known site h e.at m items a is y).0 (after_is e h (ask.Flushed m items) a ek ea)
step test site h e (ask.Recalled m job) a legal ek ea is y =
    gives test site h e m (job ∷ []) legal (not_unknown _ _ a is y) (after_is e h (ask.Recalled m job) a ek ea)
step test site h e (ask.Failed m f charged returned) a legal ek ea is y =
    gives test site h e m (charged.items ++ returned.items) legal (not_unknown _ answer.Done a is y) (after_is e h (ask.Failed m f charged returned) a ek ea)
step test site h e (ask.Claim m) (answer.Batch items evicted) legal ek ea is y =
    let op : is_open h m ≡ true = claim_is_open site h e.at m items evicted is in
    let after : (n : ℕ) → claimed_items (e ∷ h) n ≡ (if m == n then claimed_items h n ++ items.items else claimed_items h n) = after_is e h (ask.Claim m) (answer.Batch items evicted) ek ea in
    let here : claimed_items (e ∷ h) m ≡ claimed_items h m ++ items.items = after m ∙ claim_here (m == m) (claimed_items h m) items.items (eq-eqb m m refl) in
    let more : total size_in (claimed_items (e ∷ h) m) + 0 ≡ total size_in (claimed_items h m) + size_of_items items.items = rw here (omega (arith, total_append size_in (claimed_items h m) items.items, size_is items.items)) in
    one_step test e h m (size_of_items items.items) 0 op (λ n miss. after n ∙ claim_others (m == n) (claimed_items h n) items.items miss) more
step test site h e (ask.End m f) a legal ek ea is y =
    let known : (is_open h m && is_empty (claimed_items h m)) ≡ true = not_unknown _ answer.Done a is y in
    let none : claimed_items h m ≡ [] = is_nil (claimed_items h m) (and_parts _ _ known).1 in
    let after : (n : ℕ) → claimed_items (e ∷ h) n ≡ claimed_items h n = after_is e h (ask.End m f) a ek ea in
    let fewer : total (held test (e ∷ h)) (filter (λ k. not (k == m)) (open_mounts h)) ≡ total (held test (e ∷ h)) (open_mounts h) = total_less_one (held test (e ∷ h)) m (open_mounts h) (held_none test (e ∷ h) m (after m ∙ none)) in
    omega (arith, fewer, none_moved test e h after, if_none (is_mount test (mount_of h m)))
step test site h e (ask.Next d) (answer.Mounted u w v) legal ek ea is y =
    let after : (n : ℕ) → claimed_items (e ∷ h) n ≡ claimed_items h n = after_is e h (ask.Next d) (answer.Mounted u w v) ek ea in
    let none : held test (e ∷ h) (length h + 1) ≡ 0 = held_none test (e ∷ h) (length h + 1) (after (length h + 1) ∙ claimed_new site h legal (length h + 1) (omega arith)) in
    omega (arith, none_moved test e h after, if_none (is_mount test (mount_of h 0)))
step test site h e k a legal ek ea is y = omega (arith, none_moved test e h (after_is e h k a ek ea), if_none (is_mount test (mount_of h 0)))

-- the bytes that the open mounts which pass a test claim: they grow by what a Claim takes, and fall by what is ended
pub claimed_exact : (test : Mount → Bool) (site : Site) (h : History) (e : Entry) → IsLegal site (e ∷ h) → claimed_total test (e ∷ h) + (if is_asked test h e.ask then size_of_jobs h (ended_jobs e.ask) else 0) ≡ claimed_total test h + (if is_asked test h e.ask then size_of_items (claimed_by e.ask e.answer) else 0)
unfolding Exact
claimed_exact test site h e legal =
    rw (claimed_is test (e ∷ h), claimed_is test h) (step test site h e e.ask e.answer legal.0 refl refl legal.1.answered legal.1.accepted)
