-- What the open mounts that pass a test claim, in bytes, after one more entry.
use Rattle.std.proofs.Common.{◌≡◌, ℕ, ◌+◌, ◌≤◌, List, [], ◌∷◌, ◌++◌, Bool, true, false, ◌&&◌, not, refl, sym, ◌∙◌, ap, subst, arith, length}
use Rattle.std.specs.Prelude.{Option, if◌then◌else◌, ◌==◌, filter}
use Rattle.std.proofs.lemmas.Bool.{and_parts, eq-eqb}
use Rattle.cta_site.specs.declared.site.Site.{Site}
use Rattle.cta_site.specs.Listed.{Listed}
use Rattle.cta_model.specs.declared.entries.Entry.{Entry}
use Rattle.cta_model.specs.declared.asks.Ask.{Ask}
use Rattle.cta_model.specs.declared.asks.Ask.TheVariants as ask
use Rattle.cta_model.specs.declared.answers.Answer.{Answer}
use Rattle.cta_model.specs.declared.answers.Answer.TheVariants as answer
use Rattle.cta_model.specs.declared.asks.Item.{Item}
use Rattle.cta_model.specs.declared.asks.Job.{Job}
use Rattle.cta_model.specs.declared.states.Mount.{Mount}
use Rattle.cta_model.specs.History.{History}
use Rattle.cta_model.specs.Files.{size_of}
use Rattle.cta_model.specs.Mounts.{mount_of, asked_mount, is_mount, is_open, open_mounts, open_after, open_where, claimed_items, claimed_after, without_jobs, item_jobs, last_batch}
use Rattle.cta_model.specs.Tapes.{size_of_items}
use Rattle.cta_model.specs.Answers.{answer_of, is_accepted, is_known, is_last_batch, claims_all, names_twice}
use Rattle.cta_model.specs.Legal.{IsLegal}
use Rattle.cta_laws.specs.Claims.{claimed_total}
use Rattle.cta_laws.proofs.OpenMounts.{AllUpTo, opens_up_to, up_to_filter, mount_older, open_older}
use Rattle.cta_laws.proofs.Claims.{AllOf, claim_is_open}
use Rattle.cta_laws.proofs.LengthLaw.{claimed_new, not_unknown}
use Rattle.cta_laws.proofs.PlaceLaw.{flushed_known}
use Rattle.cta_laws.proofs.Sums.{total, total_is, total_append, total_filter, total_less, total_le, total_one, open_distinct, size_in, size_is, IsOfFile, claimed_of_file, file_size, without_all, items_total, batch_of_file, last_of_file}

-- ---- what the open mounts that pass a test claim

pub load : (Mount → Bool) → History → List Item → ℕ → ℕ
load test h items m = if is_mount test (mount_of h m) then total size_in items else 0

pub loads : (Mount → Bool) → History → ℕ → ℕ
loads test h m = load test h (claimed_items h m) m

pub total_same : {A : Type 0} (g k : A → ℕ) (xs : List A) → ((x : A) → g x ≡ k x) → total g xs ≡ total k xs
unfolding total
total_same g k [] h = refl
total_same g k (x ∷ xs) h = rw (h x, total_same g k xs h) refl

pub claimed_is : (test : Mount → Bool) (h : History) → claimed_total test h ≡ total (loads test h) (open_mounts h)
unfolding loads load
claimed_is test h =
    total_is (λ m. size_of_items (claimed_items h m)) (open_where test h)
    ∙ total_filter (λ m. size_of_items (claimed_items h m)) (λ m. is_mount test (mount_of h m)) (open_mounts h)
    ∙ total_same (λ m. if is_mount test (mount_of h m) then size_of_items (claimed_items h m) else 0) (loads test h) (open_mounts h) (λ m. ap (λ (n : ℕ). if is_mount test (mount_of h m) then n else 0) (size_is (claimed_items h m)))

-- what a Claim adds, and what an ask that ends claims takes out
abbrev pub took : Ask → Answer → ℕ
took (ask.Claim m) (answer.Batch items evicted) = size_of_items items.items
took _ _ = 0

abbrev pub gave : History → Ask → ℕ
gave h (ask.Flushed m items) = size_of_items items.items
gave h (ask.Recalled m job) = size_of h job.file
gave h _ = 0

abbrev pub if_asked : (Mount → Bool) → History → Ask → ℕ → ℕ
if_asked test h k n = if is_mount test (mount_of h (asked_mount k)) then n else 0

-- ---- one entry

-- a mount that an entry is about is older
pub load_older : (test : Mount → Bool) (e : Entry) (h : History) (items : List Item) (m : ℕ) → m ≤ length h → load test (e ∷ h) items m ≡ load test h items m
unfolding load
load_older test e h items m low = ap (λ (o : Option Mount). if is_mount test o then total size_in items else 0) (mount_older e h m low)

-- as many bytes where no claim is added
pub loads_same : (test : Mount → Bool) (e : Entry) (h : History) (m : ℕ) → m ≤ length h → total size_in (claimed_items (e ∷ h) m) ≤ total size_in (claimed_items h m) → loads test (e ∷ h) m ≤ loads test h m
unfolding loads load
loads_same test e h m low less = rw (mount_older e h m low) (elim (is_mount test (mount_of h m)) as (λ b. (if b then total size_in (claimed_items (e ∷ h) m) else 0) ≤ (if b then total size_in (claimed_items h m) else 0)) [ true ↦ less | false ↦ omega arith ])

-- the mount that an entry is about
pub loads_one : (test : Mount → Bool) (e : Entry) (h : History) (m c d : ℕ) → m ≤ length h → total size_in (claimed_items (e ∷ h) m) + d ≤ total size_in (claimed_items h m) + c → loads test (e ∷ h) m + (if is_mount test (mount_of h m) then d else 0) ≤ loads test h m + (if is_mount test (mount_of h m) then c else 0)
unfolding loads load
loads_one test e h m c d low less =
    rw (mount_older e h m low) (elim (is_mount test (mount_of h m)) as (λ b. (if b then total size_in (claimed_items (e ∷ h) m) else 0) + (if b then d else 0) ≤ (if b then total size_in (claimed_items h m) else 0) + (if b then c else 0)) [ true ↦ less | false ↦ omega arith ])

-- an entry about the open mount m, which leaves the open mounts and what others claim
pub one_step : (test : Mount → Bool) (e : Entry) (h : History) (m c d : ℕ) → is_open h m ≡ true → ((n : ℕ) → (m == n) ≡ false → claimed_items (e ∷ h) n ≡ claimed_items h n) → total size_in (claimed_items (e ∷ h) m) + d ≤ total size_in (claimed_items h m) + c → total (loads test (e ∷ h)) (open_mounts h) + (if is_mount test (mount_of h m) then d else 0) ≤ total (loads test h) (open_mounts h) + (if is_mount test (mount_of h m) then c else 0)
one_step test e h m c d op others less =
    total_one (loads test (e ∷ h)) (loads test h) (length h) m (if is_mount test (mount_of h m) then c else 0) (if is_mount test (mount_of h m) then d else 0) (open_mounts h) (opens_up_to h) (open_distinct h) op
    (λ n low miss. loads_same test e h n low (rw (others n miss) (omega arith)))
    (loads_one test e h m c d (open_older h m op) less)

-- an entry that adds no claim and opens no mount
pub no_step : (test : Mount → Bool) (e : Entry) (h : History) (ms : List ℕ) → AllUpTo (length h) ms → ((n : ℕ) → claimed_items (e ∷ h) n ≡ claimed_items h n) → total (loads test (e ∷ h)) ms ≤ total (loads test h) ms
no_step test e h ms all others = total_le (loads test (e ∷ h)) (loads test h) (length h) ms all (λ n low. loads_same test e h n low (rw (others n) (omega arith)))

pub if_zero : (b : Bool) → (if b then 0 else 0) ≤ 0
if_zero true = omega arith
if_zero false = omega arith

pub Step : (Mount → Bool) → Entry → History → Ask → Answer → Type 0
Step test e h k a = total (loads test (e ∷ h)) (open_after k a (length h + 1) (open_mounts h)) + if_asked test h k (gave h k) ≤ total (loads test h) (open_mounts h) + if_asked test h k (took k a)

pub known_parts : (h : History) (m : ℕ) (js : List Job) → is_known h m js ≡ true → (is_open h m ≡ true) × ((claims_all h m js ≡ true) × (names_twice js ≡ false))
known_parts h m js known =
    let p : (is_open h m ≡ true) × ((claims_all h m js && not (names_twice js)) ≡ true) = and_parts _ _ known in
    let q : (claims_all h m js ≡ true) × (not (names_twice js) ≡ true) = and_parts _ _ p.1 in
    (p.0, (q.0, not_is _ q.1))
  where
    not_is : (b : Bool) → not b ≡ true → b ≡ false
    not_is true e = absurd (cc)
    not_is false e = refl

-- what ends claims of an open mount takes them out
pub gives : (test : Mount → Bool) (site : Site) (h : History) (e : Entry) (m : ℕ) (js : List Job) → IsLegal site h → is_known h m js ≡ true → ((n : ℕ) → claimed_items (e ∷ h) n ≡ (if m == n then without_jobs js (claimed_items h n) else claimed_items h n)) → total (loads test (e ∷ h)) (open_mounts h) + (if is_mount test (mount_of h m) then total (file_size h) js else 0) ≤ total (loads test h) (open_mounts h)
gives test site h e m js legal known after =
    let parts : (is_open h m ≡ true) × ((claims_all h m js ≡ true) × (names_twice js ≡ false)) = known_parts h m js known in
    let here : claimed_items (e ∷ h) m ≡ without_jobs js (claimed_items h m) = after m ∙ same (m == m) (eq-eqb m m refl) in
    let out : total size_in (without_jobs js (claimed_items h m)) + total (file_size h) js ≤ total size_in (claimed_items h m) = without_all h m js (claimed_of_file site h legal m) parts.1.0 parts.1.1 in
    let less : total size_in (claimed_items (e ∷ h) m) + total (file_size h) js ≤ total size_in (claimed_items h m) + 0 = rw here (omega arith) in
    let step : total (loads test (e ∷ h)) (open_mounts h) + (if is_mount test (mount_of h m) then total (file_size h) js else 0) ≤ total (loads test h) (open_mounts h) + (if is_mount test (mount_of h m) then 0 else 0) =
    one_step test e h m 0 (total (file_size h) js) parts.0 (λ n miss. after n ∙ other (m == n) n miss) less in
    omega (arith, step, if_zero (is_mount test (mount_of h m)))
  where
    same : (b : Bool) → b ≡ true → (if b then without_jobs js (claimed_items h m) else claimed_items h m) ≡ without_jobs js (claimed_items h m)
    same true x = refl
    same false x = absurd (cc)

    other : (b : Bool) (n : ℕ) → b ≡ false → (if b then without_jobs js (claimed_items h n) else claimed_items h n) ≡ claimed_items h n
    other true n x = absurd (cc)
    other false n x = refl

pub flushed_of_file : (site : Site) (h : History) → IsLegal site h → (t m : ℕ) (items : Listed Item) (a : Answer) → a ≡ answer_of site h t (ask.Flushed m items) → is_accepted a ≡ true → AllOf (IsOfFile h) items.items
flushed_of_file site h legal t m items a is y = batch_of_file h items.items (last_batch h m) (flushed_known site h t m items a is y).1 (λ xs q. last_of_file site h legal m xs q)

pub one_size : (h : History) (j : Job) → total (file_size h) (j ∷ []) ≡ size_of h j.file
unfolding total
one_size h j = omega arith

pub after_is : (e : Entry) (h : History) (k : Ask) (a : Answer) → e.ask ≡ k → e.answer ≡ a → (n : ℕ) → claimed_items (e ∷ h) n ≡ claimed_after k a n (claimed_items h n)
after_is e h k a ek ea n = ap (λ (x : Ask). claimed_after x e.answer n (claimed_items h n)) ek ∙ ap (λ (x : Answer). claimed_after k x n (claimed_items h n)) ea

pub load_none : (test : Mount → Bool) (e : Entry) (h : History) (m : ℕ) → claimed_items (e ∷ h) m ≡ [] → loads test (e ∷ h) m ≤ 0
unfolding loads load total
load_none test e h m none = rw none (if_zero (is_mount test (mount_of (e ∷ h) m)))

pub claim_others : (b : Bool) (xs ys : List Item) → b ≡ false → (if b then xs ++ ys else xs) ≡ xs
claim_others true xs ys x = absurd (cc)
claim_others false xs ys x = refl

pub claim_here : (b : Bool) (xs ys : List Item) → b ≡ true → (if b then xs ++ ys else xs) ≡ xs ++ ys
claim_here true xs ys x = refl
claim_here false xs ys x = absurd (cc)

-- what the open mounts that pass a test claim grows by what a Claim of one of them takes, and falls by what one of them gives
pub step : (test : Mount → Bool) (site : Site) (h : History) (e : Entry) (k : Ask) (a : Answer) → IsLegal site h → e.ask ≡ k → e.answer ≡ a → a ≡ answer_of site h e.at k → is_accepted a ≡ true → Step test e h k a
unfolding Step total
step test site h e (ask.Flushed m items) a legal ek ea is y =
    let known : (is_known h m (item_jobs items.items) ≡ true) × (is_last_batch (last_batch h m) items.items ≡ true) = flushed_known site h e.at m items a is y in
    let out : total (loads test (e ∷ h)) (open_mounts h) + (if is_mount test (mount_of h m) then total (file_size h) (item_jobs items.items) else 0) ≤ total (loads test h) (open_mounts h) = gives test site h e m (item_jobs items.items) legal known.0 (after_is e h (ask.Flushed m items) a ek ea) in
    let size : total (file_size h) (item_jobs items.items) ≡ size_of_items items.items = items_total h items.items (flushed_of_file site h legal e.at m items a is y) ∙ sym (size_is items.items) in
    let less : total (loads test (e ∷ h)) (open_mounts h) + (if is_mount test (mount_of h m) then size_of_items items.items else 0) ≤ total (loads test h) (open_mounts h) = subst (λ (n : ℕ). total (loads test (e ∷ h)) (open_mounts h) + (if is_mount test (mount_of h m) then n else 0) ≤ total (loads test h) (open_mounts h)) size out in
    omega arith
step test site h e (ask.Recalled m job) a legal ek ea is y =
    let known : is_known h m (job ∷ []) ≡ true = not_unknown _ _ a is y in
    let out : total (loads test (e ∷ h)) (open_mounts h) + (if is_mount test (mount_of h m) then total (file_size h) (job ∷ []) else 0) ≤ total (loads test h) (open_mounts h) = gives test site h e m (job ∷ []) legal known (after_is e h (ask.Recalled m job) a ek ea) in
    let size : total (file_size h) (job ∷ []) ≡ size_of h job.file = one_size h job in
    let less : total (loads test (e ∷ h)) (open_mounts h) + (if is_mount test (mount_of h m) then size_of h job.file else 0) ≤ total (loads test h) (open_mounts h) = subst (λ (n : ℕ). total (loads test (e ∷ h)) (open_mounts h) + (if is_mount test (mount_of h m) then n else 0) ≤ total (loads test h) (open_mounts h)) size out in
    omega arith
step test site h e (ask.Failed m f charged returned) a legal ek ea is y =
    let known : is_known h m (charged.items ++ returned.items) ≡ true = not_unknown _ answer.Done a is y in
    let out : total (loads test (e ∷ h)) (open_mounts h) + (if is_mount test (mount_of h m) then total (file_size h) (charged.items ++ returned.items) else 0) ≤ total (loads test h) (open_mounts h) = gives test site h e m (charged.items ++ returned.items) legal known (after_is e h (ask.Failed m f charged returned) a ek ea) in
    omega (arith, if_zero (is_mount test (mount_of h m)))
step test site h e (ask.Claim m) (answer.Batch items evicted) legal ek ea is y =
    let op : is_open h m ≡ true = claim_is_open site h e.at m items evicted is in
    let after : (n : ℕ) → claimed_items (e ∷ h) n ≡ (if m == n then claimed_items h n ++ items.items else claimed_items h n) = after_is e h (ask.Claim m) (answer.Batch items evicted) ek ea in
    let here : claimed_items (e ∷ h) m ≡ claimed_items h m ++ items.items = after m ∙ claim_here (m == m) (claimed_items h m) items.items (eq-eqb m m refl) in
    let more : total size_in (claimed_items (e ∷ h) m) + 0 ≤ total size_in (claimed_items h m) + size_of_items items.items = rw here (omega (arith, total_append size_in (claimed_items h m) items.items, size_is items.items)) in
    let all : total (loads test (e ∷ h)) (open_mounts h) + (if is_mount test (mount_of h m) then 0 else 0) ≤ total (loads test h) (open_mounts h) + (if is_mount test (mount_of h m) then size_of_items items.items else 0) =
    one_step test e h m (size_of_items items.items) 0 op (λ n miss. after n ∙ claim_others (m == n) (claimed_items h n) items.items miss) more in
    all
step test site h e (ask.End m f) a legal ek ea is y =
    let less : total (loads test (e ∷ h)) (filter (λ k. not (k == m)) (open_mounts h)) ≤ total (loads test h) (filter (λ k. not (k == m)) (open_mounts h)) =
    no_step test e h (filter (λ k. not (k == m)) (open_mounts h)) (up_to_filter (length h) (λ k. not (k == m)) (open_mounts h) (opens_up_to h)) (after_is e h (ask.End m f) a ek ea) in
    omega (arith, total_less (loads test h) (λ k. not (k == m)) (open_mounts h))
step test site h e (ask.Next d) (answer.Mounted u w v) legal ek ea is y =
    let after : (n : ℕ) → claimed_items (e ∷ h) n ≡ claimed_items h n = after_is e h (ask.Next d) (answer.Mounted u w v) ek ea in
    let none : loads test (e ∷ h) (length h + 1) ≤ 0 = load_none test e h (length h + 1) (after (length h + 1) ∙ claimed_new site h legal (length h + 1) (omega arith)) in
    let less : total (loads test (e ∷ h)) (open_mounts h) ≤ total (loads test h) (open_mounts h) = no_step test e h (open_mounts h) (opens_up_to h) after in
    omega (arith, if_zero (is_mount test (mount_of h 0)))
step test site h e k a legal ek ea is y =
    let less : total (loads test (e ∷ h)) (open_mounts h) ≤ total (loads test h) (open_mounts h) = no_step test e h (open_mounts h) (opens_up_to h) (after_is e h k a ek ea) in
    omega (arith, if_zero (is_mount test (mount_of h 0)))

pub claimed_step_total : (test : Mount → Bool) (site : Site) (h : History) (e : Entry) → IsLegal site (e ∷ h) → claimed_total test (e ∷ h) + if_asked test h e.ask (gave h e.ask) ≤ claimed_total test h + if_asked test h e.ask (took e.ask e.answer)
unfolding Step
claimed_step_total test site h e legal =
    rw (claimed_is test (e ∷ h), claimed_is test h) (step test site h e e.ask e.answer legal.0 refl refl legal.1.answered legal.1.accepted)
