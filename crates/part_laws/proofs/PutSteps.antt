-- How a Put changes jobs and queues.
use Rattle.std.proofs.Common.{◌≡◌, ◌∙◌, ℕ, zero, suc, ◌+◌, ◌≤◌, inl, inr, List, [], ◌∷◌, ◌++◌, Bool, true, false, ◌&&◌, ◌||◌, refl, sym, ap, subst, arith, length}
use Rattle.std.specs.Prelude.{Option, Some, None, is_none, option_map, if◌then◌else◌, ◌==◌, filter, nat_le}
use Rattle.std.proofs.lemmas.Bool.{and_parts, eqb-true, eq-eqb}
use Rattle.cta_site.specs.declared.site.Site.{Site}
use Rattle.cta_site.specs.Lookups.{class_of, pool_of, copies_of}
use Rattle.blob.specs.declared.sum.Sum256.{Sum256}
use Rattle.cta_model.specs.declared.entries.Entry.{Entry}
use Rattle.cta_model.specs.declared.asks.Direction.{Direction}
use Rattle.cta_model.specs.declared.asks.Who.{Who}
use Rattle.cta_model.specs.declared.asks.Job.{Job}
use Rattle.cta_model.specs.History.{History, is_number}
use Rattle.cta_model.specs.Files.{path_of, path_in}
use Rattle.cta_model.specs.Mounts.{claimer_of, same_direction, has_job, same_job, job_of}
use Rattle.cta_model.specs.Recalls.{Recall, live_recall, recall_after}
use Rattle.cta_model.specs.Jobs.{archive_birth, archive_after, live_birth, is_live_job}
use Rattle.cta_model.specs.Queues.{queue_of, key_of, key_by, direction_of, way_by, is_queued}
use Rattle.cta_model.specs.Legal.{IsLegal}
use Rattle.cta_laws.proofs.Tests.{bool_cases}
use Rattle.cta_laws.proofs.Claims.{AllOf, all_append}
use Rattle.cta_laws.proofs.OnceLaw.{birth_in}
use Rattle.cta_laws.proofs.RangeLaw.{newest_path}
use Rattle.cta_model.specs.declared.asks.Ask.TheVariants as ask
use Rattle.cta_model.specs.declared.asks.Direction.TheVariants as direction
use Rattle.cta_laws.proofs.Bools.{same_bool}
use Rattle.part_laws.proofs.Births.{has_both, new_unclaimed, queue_appends}
use Rattle.part_laws.specs.Queued.{is_of_pool, put_jobs}
use Rattle.part_laws.proofs.Orders.{between, has_filter, order_append, order_filter}
use Rattle.part_model.specs.Order.{InOrder}
use Rattle.part_laws.proofs.QueueSteps.{key_or, live_low, queued_by}
use Rattle.cta_laws.specs.Changes.{may_change_claims, may_change_states, may_charge, may_flush}
use Rattle.cta_laws.proofs.Frames.{charges_same, claimer_same, flushed_same, key_kept, state_same}
use Rattle.cta_laws.proofs.Paths.{put_keeps}
use Rattle.part_laws.proofs.QueueMoves.{queue_stays}

-- ---- the jobs of a Put

-- whether it is a job of the Put of this number, for a copy from 1 to this
abbrev pub is_put_job : ℕ → ℕ → Job → Bool
is_put_job n copies j = j.birth == n && (j.file == n && (nat_le 1 j.copy && nat_le j.copy copies))

put_more : (n c : ℕ) (j : Job) → (is_put_job n c j || (same_job j (job_of n n (suc c)) || false)) ≡ is_put_job n (suc c) j
put_more n c j = same_bool (is_put_job n c j || (same_job j (job_of n n (suc c)) || false)) (is_put_job n (suc c) j) (λ e. grind arith) (λ e. grind arith)

put_none : (n : ℕ) (j : Job) → false ≡ is_put_job n 0 j
put_none n j = same_bool false (is_put_job n 0 j) (λ e. absurd (cc)) (λ e. grind arith)

pub has_put : (n c : ℕ) (j : Job) → has_job j (put_jobs n c) ≡ is_put_job n c j
has_put n zero j = put_none n j
has_put n (suc c) j = has_both j (put_jobs n c) (job_of n n (suc c) ∷ []) ∙ ap (λ (b : Bool). b || (same_job j (job_of n n (suc c)) || false)) (has_put n c j) ∙ put_more n c j

pub put_all : (n c : ℕ) → AllOf (λ (j : Job). (j.birth ≡ n) × (j.file ≡ n) × (j.copy ≤ c)) (put_jobs n c)
put_all n zero = tt
put_all n (suc c) = all_append (λ (j : Job). (j.birth ≡ n) × (j.file ≡ n) × (j.copy ≤ suc c)) (put_jobs n c) (job_of n n (suc c) ∷ []) (all_up n c (put_jobs n c) (put_all n c)) ((refl, refl, omega arith), tt)
  where
    all_up : (n c : ℕ) (js : List Job) → AllOf (λ (j : Job). (j.birth ≡ n) × (j.file ≡ n) × (j.copy ≤ c)) js → AllOf (λ (j : Job). (j.birth ≡ n) × (j.file ≡ n) × (j.copy ≤ suc c)) js
    all_up n c [] all = tt
    all_up n c (j ∷ js) all = ((all.0.0, all.0.1, (let low : j.copy ≤ c = all.0.2 in omega arith)), all_up n c js all.1)

pub put_order : (n c : ℕ) → InOrder (put_jobs n c)
put_order n zero = tt
put_order n (suc c) =
    order_append (put_jobs n c) (job_of n n (suc c) ∷ []) (put_order n c) (tt, tt)
    (between (λ (j : Job). (j.birth ≡ n) × (j.file ≡ n) × (j.copy ≤ c)) (λ (j : Job). (j.birth ≡ n) × (j.file ≡ n) × (j.copy ≡ suc c)) (put_jobs n c) (job_of n n (suc c) ∷ []) (put_all n c) ((refl, refl, refl), tt)
    (λ x y p q. (let p0 : x.birth ≡ n = p.0 in let p1 : x.file ≡ n = p.1 in let p2 : x.copy ≤ c = p.2 in let q0 : y.birth ≡ n = q.0 in let q1 : y.file ≡ n = q.1 in let q2 : y.copy ≡ suc c = q.2 in grind arith)))

pub put_recall : (site : Site) (h : History) (e : Entry) (who : Who) (path : List ℕ) (sum : Sum256) (f : ℕ) (o : Option Recall) → e.ask ≡ ask.Put who path sum → recall_after site h e f o ≡ o
put_recall site h e who path sum f None ek = rw ek refl
put_recall site h e who path sum f (Some r) ek = rw ek refl

pub put_archive : (site : Site) (h : History) (e : Entry) (who : Who) (path : List ℕ) (sum : Sum256) (f c : ℕ) (o : Option ℕ) → e.ask ≡ ask.Put who path sum
    → archive_after site h e f c o ≡ (if is_none o && (length h + 1 == f && (nat_le 1 c && nat_le c (copies_of site path))) then Some (length h + 1) else o)
put_archive site h e who path sum f c None ek = rw ek refl
put_archive site h e who path sum f c (Some b) ek = rw ek refl

-- a job of an older file is live after a Put where it was
put_live_old : (site : Site) (h : History) (e : Entry) (who : Who) (path : List ℕ) (sum : Sum256) (j : Job) → IsLegal site h → e.ask ≡ ask.Put who path sum → is_put_job (length h + 1) (copies_of site path) j ≡ false → is_live_job site (e ∷ h) j ≡ is_live_job site h j
put_live_old site h e who path sum j legal ek d = by j.copy refl
  where
    after : (c : ℕ) (o : Option ℕ) → j.copy ≡ c → is_number j.birth (if is_none o && (length h + 1 == j.file && (nat_le 1 c && nat_le c (copies_of site path))) then Some (length h + 1) else o) ≡ is_number j.birth o
    after c (Some b) is = refl
    after c None is =
        elim (bool_cases (length h + 1 == j.file && (nat_le 1 c && nat_le c (copies_of site path)))) [
          | inr miss ↦ rw miss refl
          | inl hit ↦ rw hit (not_birth hit)
        ]
      where
        not_birth : (length h + 1 == j.file && (nat_le 1 c && nat_le c (copies_of site path))) ≡ true → (j.birth == length h + 1) ≡ false
        not_birth hit = grind arith

    by : (c : ℕ) → j.copy ≡ c → is_number j.birth (live_birth site (e ∷ h) j.file c) ≡ is_number j.birth (live_birth site h j.file c)
    by zero is = ap (λ (o : Option Recall). is_number j.birth (birth_in o)) (put_recall site h e who path sum j.file (live_recall site h j.file) ek)
    by (suc c) is = ap (is_number j.birth) (put_archive site h e who path sum j.file (suc c) (archive_birth site h j.file (suc c)) ek) ∙ after (suc c) (archive_birth site h j.file (suc c)) is

-- ---- the new jobs

put_born : (site : Site) (h : History) (e : Entry) (who : Who) (path : List ℕ) (sum : Sum256) (j : Job) → IsLegal site h → e.ask ≡ ask.Put who path sum → is_put_job (length h + 1) (copies_of site path) j ≡ true → is_live_job site (e ∷ h) j ≡ true
put_born site h e who path sum j legal ek hit = by j.copy refl
  where
    is_birth : j.birth ≡ length h + 1
    is_birth = eqb-true _ _ (and_parts (j.birth == length h + 1) _ hit).0

    is_file : j.file ≡ length h + 1
    is_file = eqb-true _ _ (and_parts (j.file == length h + 1) _ (and_parts (j.birth == length h + 1) _ hit).1).0

    fits : (nat_le 1 j.copy && nat_le j.copy (copies_of site path)) ≡ true
    fits = (and_parts (j.file == length h + 1) _ (and_parts (j.birth == length h + 1) _ hit).1).1

    high : (b : ℕ) (c : ℕ) → archive_birth site h j.file (suc c) ≡ Some b → ⊥
    high b c is =
        (let live : is_live_job site h (job_of b j.file (suc c)) ≡ true = subst (λ (o : Option ℕ). is_number b o ≡ true) (sym is) (eq-eqb b b refl) in
        let low : j.file ≤ length h = live_low site h legal (job_of b j.file (suc c)) live in
        absurd (omega (arith, is_file)))

    after : (c : ℕ) (o : Option ℕ) → j.copy ≡ suc c → archive_birth site h j.file (suc c) ≡ o → is_number j.birth (if is_none o && (length h + 1 == j.file && (nat_le 1 (suc c) && nat_le (suc c) (copies_of site path))) then Some (length h + 1) else o) ≡ true
    after c (Some b) is was = absurd (high b c was)
    after c None is was =
        (let bears : (length h + 1 == j.file && (nat_le 1 (suc c) && nat_le (suc c) (copies_of site path))) ≡ true = subst (λ (n : ℕ). (length h + 1 == j.file && (nat_le 1 n && nat_le n (copies_of site path))) ≡ true) is (both (eq-eqb (length h + 1) j.file (sym is_file)) fits) in
        rw bears (eq-eqb j.birth (length h + 1) is_birth))
      where
        both : {a b : Bool} → a ≡ true → b ≡ true → (a && b) ≡ true
        both p q = rw (p, q) refl

    by : (c : ℕ) → j.copy ≡ c → is_number j.birth (live_birth site (e ∷ h) j.file c) ≡ true
    by zero is = (let bad : nat_le 1 0 ≡ true = subst (λ (n : ℕ). nat_le 1 n ≡ true) is (and_parts (nat_le 1 j.copy) _ fits).0 in absurd (cc))
    by (suc c) is = ap (is_number j.birth) (put_archive site h e who path sum j.file (suc c) (archive_birth site h j.file (suc c)) ek) ∙ after c (archive_birth site h j.file (suc c)) is refl

pub not_live_yet : (site : Site) (h : History) (j : Job) → IsLegal site h → j.file ≡ length h + 1 → is_live_job site h j ≡ false
not_live_yet site h j legal is =
    elim (bool_cases (is_live_job site h j))
    [ inl live ↦ (let low : j.file ≤ length h = live_low site h legal j live in absurd (omega arith)) | inr d ↦ d ]

-- how a Put changes which jobs are live
pub put_live : (site : Site) (h : History) (e : Entry) (who : Who) (path : List ℕ) (sum : Sum256) (j : Job) → IsLegal site h → e.ask ≡ ask.Put who path sum → is_live_job site (e ∷ h) j ≡ (is_live_job site h j || is_put_job (length h + 1) (copies_of site path) j)
put_live site h e who path sum j legal ek =
    elim (bool_cases (is_put_job (length h + 1) (copies_of site path) j)) [
      | inl hit ↦ rw hit (put_born site h e who path sum j legal ek hit ∙ sym (or_true (is_live_job site h j)))
      | inr miss ↦ rw miss (put_live_old site h e who path sum j legal ek miss ∙ sym (or_false (is_live_job site h j)))
    ]
  where
    or_true : (b : Bool) → (b || true) ≡ true
    or_true true = refl
    or_true false = refl

    or_false : (b : Bool) → (b || false) ≡ b
    or_false true = refl
    or_false false = refl

-- ---- queues

pub put_goes : (n copies : ℕ) (j : Job) → is_put_job n copies j ≡ true → direction_of j ≡ direction.Archive
put_goes n copies j hit = by j.copy (and_parts (nat_le 1 j.copy) (nat_le j.copy copies) (and_parts (j.file == n) _ (and_parts (j.birth == n) _ hit).1).1).0
  where
    by : (c : ℕ) → nat_le 1 c ≡ true → way_by c ≡ direction.Archive
    by zero e = absurd (cc)
    by (suc c) e = refl

pub put_key : (site : Site) (h : History) (e : Entry) (who : Who) (path : List ℕ) (sum : Sum256) (copies : ℕ) (j : Job) → e.ask ≡ ask.Put who path sum → is_put_job (length h + 1) copies j ≡ true → key_of site (e ∷ h) j ≡ option_map (λ class. pool_of site class j.copy) (class_of site path)
put_key site h e who path sum copies j ek hit = by j.copy (and_parts (nat_le 1 j.copy) (nat_le j.copy copies) (and_parts (j.file == length h + 1) _ (and_parts (j.birth == length h + 1) _ hit).1).1).0
  where
    is_file : j.file ≡ length h + 1
    is_file = eqb-true _ _ (and_parts (j.file == length h + 1) _ (and_parts (j.birth == length h + 1) _ hit).1).0

    same : path_of (e ∷ h) j.file ≡ path
    same = ap (path_of (e ∷ h)) is_file ∙ newest_path e h ∙ ap path_in ek

    by : (c : ℕ) → nat_le 1 c ≡ true → key_by c site (e ∷ h) j ≡ option_map (λ class. pool_of site class j.copy) (class_of site path)
    by zero x = absurd (cc)
    by (suc c) x = ap (λ (p : List ℕ). option_map (λ class. pool_of site class j.copy) (class_of site p)) same

pub put_point : (site : Site) (h : History) (e : Entry) (who : Who) (path : List ℕ) (sum : Sum256) → IsLegal site (e ∷ h) → e.ask ≡ ask.Put who path sum → (way : Direction) (key : ℕ) (j : Job)
    → is_queued site (e ∷ h) way key j ≡ (is_queued site h way key j || (is_put_job (length h + 1) (copies_of site path) j && (same_direction way direction.Archive && is_of_pool site path key j)))
put_point site h e who path sum legal ek way key j =
    elim (bool_cases (is_put_job (length h + 1) (copies_of site path) j)) [
      | inl hit ↦
          (let is_birth : j.birth ≡ length h + 1 = eqb-true _ _ (and_parts (j.birth == length h + 1) _ hit).0 in
          let is_file : j.file ≡ length h + 1 = eqb-true _ _ (and_parts (j.file == length h + 1) _ (and_parts (j.birth == length h + 1) _ hit).1).0 in
          let was : is_live_job site h j ≡ false = not_live_yet site h j legal.0 is_file in
          let free : claimer_of (e ∷ h) j ≡ None = claimer_same site h e j legal (ap may_change_claims ek) ∙ new_unclaimed site h legal.0 j (omega arith) in
          rw (hit, was, put_born site h e who path sum j legal.0 ek hit, free, put_goes (length h + 1) (copies_of site path) j hit, put_key site h e who path sum (copies_of site path) j ek hit) refl)
      | inr miss ↦
          rw miss (
          ap (λ (b : Bool). queued_by way key j b (claimer_of (e ∷ h) j) (key_of site (e ∷ h) j)) (put_live_old site h e who path sum j legal.0 ek miss)
          ∙ ap (λ (o : Option ℕ). queued_by way key j (is_live_job site h j) o (key_of site (e ∷ h) j)) (claimer_same site h e j legal (ap may_change_claims ek))
          ∙ key_or way key j (is_live_job site h j) (claimer_of h j) (key_of site (e ∷ h) j) (key_of site h j) (λ live. same_key (live_low site h legal.0 j live))
          ∙ sym (or_false (is_queued site h way key j)))
    ]
  where
    or_false : (b : Bool) → (b || false) ≡ b
    or_false true = refl
    or_false false = refl

    same_key : j.file ≤ length h → key_of site (e ∷ h) j ≡ key_of site h j
    same_key low =
        key_kept site e h j (record { low = low; live = put_keeps e site h who path sum j.file legal.1 ek low; flushed = λ c. flushed_same e h j.file c (ap may_flush ek); state = λ v. state_same site e h v (ap may_change_states ek) }) (charges_same e h j (ap may_charge ek))

-- a Put adds its jobs at the ends of the queues of their pools
pub put_queue : (site : Site) (h : History) (e : Entry) (who : Who) (path : List ℕ) (sum : Sum256) → IsLegal site (e ∷ h) → e.ask ≡ ask.Put who path sum → (pool : ℕ)
    → queue_of site (e ∷ h) direction.Archive pool ≡ queue_of site h direction.Archive pool ++ filter (is_of_pool site path pool) (put_jobs (length h + 1) (copies_of site path))
put_queue site h e who path sum legal ek pool =
    queue_appends site h e direction.Archive pool (filter (is_of_pool site path pool) (put_jobs (length h + 1) (copies_of site path))) legal
    (order_filter (is_of_pool site path pool) (put_jobs (length h + 1) (copies_of site path)) (put_order (length h + 1) (copies_of site path)))
    (births (put_jobs (length h + 1) (copies_of site path)) (put_all (length h + 1) (copies_of site path)))
    (λ j. put_point site h e who path sum legal ek direction.Archive pool j
    ∙ ap (λ (b : Bool). is_queued site h direction.Archive pool j || b) (sym (has_filter (is_of_pool site path pool) j (put_jobs (length h + 1) (copies_of site path)) ∙ ap (λ (b : Bool). b && is_of_pool site path pool j) (has_put (length h + 1) (copies_of site path) j))))
  where
    births : (js : List Job) → AllOf (λ (j : Job). (j.birth ≡ length h + 1) × (j.file ≡ length h + 1) × (j.copy ≤ copies_of site path)) js → AllOf (λ (j : Job). j.birth ≡ length h + 1) (filter (is_of_pool site path pool) js)
    births [] all = tt
    births (j ∷ js) all = elim (is_of_pool site path pool j) as (λ b. AllOf (λ (j : Job). j.birth ≡ length h + 1) (if b then j ∷ filter (is_of_pool site path pool) js else filter (is_of_pool site path pool) js)) [ true ↦ (all.0.0, births js all.1) | false ↦ births js all.1 ]

-- and leaves the queues of recalls
pub put_recalls : (site : Site) (h : History) (e : Entry) (who : Who) (path : List ℕ) (sum : Sum256) → IsLegal site (e ∷ h) → e.ask ≡ ask.Put who path sum → (tape : ℕ)
    → queue_of site (e ∷ h) direction.Retrieve tape ≡ queue_of site h direction.Retrieve tape
put_recalls site h e who path sum legal ek tape =
    queue_stays site h (e ∷ h) direction.Retrieve tape legal.0 legal
    (λ j. put_point site h e who path sum legal ek direction.Retrieve tape j ∙ none (is_queued site h direction.Retrieve tape j) (is_put_job (length h + 1) (copies_of site path) j))
  where
    none : (a b : Bool) → (a || (b && false)) ≡ a
    none true b = refl
    none false true = refl
    none false false = refl
