-- How entries that bear jobs, or end recalls, change queues.
use Rattle.std.proofs.Common.{◌≡◌, ◌∙◌, ℕ, zero, suc, ◌+◌, inl, inr, List, [], ◌∷◌, Bool, true, false, ◌&&◌, ◌||◌, refl, sym, ap, subst, arith, length}
use Rattle.std.specs.Prelude.{Option, Some, None, option_map, if◌then◌else◌, ◌==◌, filter}
use Rattle.std.proofs.lemmas.Bool.{and_parts, eqb-true, eq-eqb}
use Rattle.cta_site.specs.declared.site.Site.{Site}
use Rattle.cta_site.specs.Listed.{Listed}
use Rattle.cta_model.specs.declared.entries.Entry.{Entry}
use Rattle.cta_model.specs.declared.asks.Direction.{Direction}
use Rattle.cta_model.specs.declared.asks.Who.{Who}
use Rattle.cta_model.specs.declared.asks.Wanted.{Wanted}
use Rattle.cta_model.specs.declared.asks.Job.{Job}
use Rattle.cta_model.specs.History.{History, is_number, has_number}
use Rattle.cta_model.specs.Mounts.{claimer_of, same_direction, has_job, same_job, has_copy, job_of}
use Rattle.cta_model.specs.Recalls.{Recall, live_recall, subscribed}
use Rattle.cta_model.specs.Jobs.{live_birth, is_live_job, may_bear}
use Rattle.cta_model.specs.Queues.{queue_of, key_of, direction_of, is_queued}
use Rattle.cta_model.specs.Answers.{names_twice}
use Rattle.cta_model.specs.Legal.{IsLegal}
use Rattle.cta_laws.proofs.Tests.{bool_cases, or_cases, or_left, or_right}
use Rattle.cta_laws.proofs.Claims.{AllOf}
use Rattle.cta_laws.proofs.OnceLaw.{birth_in, same_job_eq}
use Rattle.cta_laws.proofs.StandLaw.{birth_new}
use Rattle.cta_model.specs.declared.asks.Ask.TheVariants as ask
use Rattle.part_laws.proofs.QueueMoves.{queue_enters, queue_leaves}
use Rattle.part_model.specs.Order.{insert_jobs}
use Rattle.part_laws.proofs.Orders.{has_filter}
use Rattle.part_laws.proofs.FailSteps.{twice_filter}
use Rattle.part_laws.proofs.QueueSteps.{key_or, live_low, queued_by}
use Rattle.cta_laws.proofs.Frames.{claimer_same, key_same}
use Rattle.part_laws.proofs.Births.{new_unclaimed}
use Rattle.cta_laws.specs.Changes.{may_change_claims, may_change_keys}
use Rattle.part_model.specs.JobBook.{Book, TellSame, bear_jobs, subscribe_files}
use Rattle.part_laws.specs.QueueBooks.{book_of}

-- ---- births

-- whether a job goes this way and has this key
abbrev pub is_of_key : Site → History → Direction → ℕ → Job → Bool
is_of_key site h way key j = same_direction way (direction_of j) && is_number key (key_of site h j)

pub has_job_copy : (j : Job) (js : List Job) → has_job j js ≡ true → has_copy j.file j.copy js ≡ true
has_job_copy j [] there = absurd (cc)
has_job_copy j (k ∷ js) there =
    elim (or_cases (same_job j k) (has_job j js) there) [
      | inl hit ↦ (let same : j ≡ k = same_job_eq j k hit in or_left (k.file == j.file && k.copy == j.copy) (has_copy j.file j.copy js) (both (eq-eqb k.file j.file (sym (ap (λ (x : Job). x.file) same))) (eq-eqb k.copy j.copy (sym (ap (λ (x : Job). x.copy) same)))))
      | inr rest ↦ or_right (k.file == j.file && k.copy == j.copy) (has_copy j.file j.copy js) (has_job_copy j js rest)
    ]
  where
    both : {a b : Bool} → a ≡ true → b ≡ true → (a && b) ≡ true
    both p q = rw (p, q) refl

copy_has_job : (n f c : ℕ) (js : List Job) → AllOf (λ (j : Job). j.birth ≡ n) js → has_copy f c js ≡ true → has_job (job_of n f c) js ≡ true
copy_has_job n f c [] all there = absurd (cc)
copy_has_job n f c (k ∷ js) all there =
    elim (or_cases (k.file == f && k.copy == c) (has_copy f c js) there) [
      | inl hit ↦
          (let parts : (k.file == f ≡ true) × (k.copy == c ≡ true) = and_parts _ _ hit in
          let file : k.file ≡ f = eqb-true k.file f parts.0 in
          let copy : k.copy ≡ c = eqb-true k.copy c parts.1 in
          let birth : k.birth ≡ n = all.0 in
          or_left (same_job (job_of n f c) k) (has_job (job_of n f c) js) (grind arith))
      | inr rest ↦ or_right (same_job (job_of n f c) k) (has_job (job_of n f c) js) (copy_has_job n f c js all.1 rest)
    ]

pub born_birth : (n : ℕ) (j : Job) (js : List Job) → AllOf (λ (j : Job). j.birth ≡ n) js → has_job j js ≡ true → j.birth ≡ n
born_birth n j [] all there = absurd (cc)
born_birth n j (k ∷ js) all there =
    elim (or_cases (same_job j k) (has_job j js) there)
    [ inl hit ↦ ap (λ (x : Job). x.birth) (same_job_eq j k hit) ∙ all.0 | inr rest ↦ born_birth n j js all.1 rest ]

-- what an entry bears enters the queues of its keys, where the others are queued as before
pub births_by : (site : Site) (h : History) (e : Entry) (born : List Job) → IsLegal site (e ∷ h) → AllOf (λ (j : Job). j.birth ≡ length h + 1) born → names_twice born ≡ false → (way : Direction) (key : ℕ)
    → ((f c : ℕ) → has_copy f c born ≡ true → live_birth site (e ∷ h) f c ≡ Some (length h + 1)) → ((f c : ℕ) → has_copy f c born ≡ true → live_birth site h f c ≡ None)
    → ((j : Job) → has_job j born ≡ true → claimer_of (e ∷ h) j ≡ None)
    → ((j : Job) → has_copy j.file j.copy born ≡ false → is_queued site (e ∷ h) way key j ≡ is_queued site h way key j)
    → queue_of site (e ∷ h) way key ≡ insert_jobs (filter (is_of_key site (e ∷ h) way key) born) (queue_of site h way key)
births_by site h e born legal births once way key now new free others =
    queue_enters site h (e ∷ h) way key (filter (is_of_key site (e ∷ h) way key) born) legal.0 legal (twice_filter (is_of_key site (e ∷ h) way key) born once)
    (λ j there. apart j (first (has_job j born) (is_of_key site (e ∷ h) way key j) (sym (has_filter (is_of_key site (e ∷ h) way key) j born) ∙ there)))
    (λ j. point j ∙ ap (λ (b : Bool). b || is_queued site h way key j) (sym (has_filter (is_of_key site (e ∷ h) way key) j born)))
  where
    first : (a b : Bool) → (a && b) ≡ true → a ≡ true
    first true b x = refl
    first false b x = absurd (cc)

    not_live : (j : Job) → has_copy j.file j.copy born ≡ true → is_live_job site h j ≡ false
    not_live j there = ap (is_number j.birth) (new j.file j.copy there)

    apart : (j : Job) → has_job j born ≡ true → is_queued site h way key j ≡ false
    apart j there = rw (not_live j (has_job_copy j born there)) refl

    or_false : (b : Bool) → (b || false) ≡ b
    or_false true = refl
    or_false false = refl

    point : (j : Job) → is_queued site (e ∷ h) way key j ≡ ((has_job j born && is_of_key site (e ∷ h) way key j) || is_queued site h way key j)
    point j =
        elim (bool_cases (has_copy j.file j.copy born)) [
          | inl there ↦
              (let live : is_live_job site (e ∷ h) j ≡ (j.birth == length h + 1) = ap (is_number j.birth) (now j.file j.copy there) in
              elim (bool_cases (j.birth == length h + 1)) [
                | inl hit ↦
                    (let birth : j.birth ≡ length h + 1 = eqb-true j.birth (length h + 1) hit in
                    let in_born : has_job j born ≡ true = subst (λ (n : ℕ). has_job (job_of n j.file j.copy) born ≡ true) (sym birth) (copy_has_job (length h + 1) j.file j.copy born births there) in
                    rw (live, hit, in_born, not_live j there, free j in_born) (sym (or_false (is_of_key site (e ∷ h) way key j))))
                | inr miss ↦
                    (let not_born : has_job j born ≡ false = elim (bool_cases (has_job j born)) [ inl x ↦ (let bad : (j.birth == length h + 1) ≡ true = eq-eqb j.birth (length h + 1) (born_birth (length h + 1) j born births x) in absurd (cc)) | inr x ↦ x ] in
                    rw (live, miss, not_born, not_live j there) refl)
              ])
          | inr none ↦
              (let not_born : has_job j born ≡ false = elim (bool_cases (has_job j born)) [ inl x ↦ (let bad : has_copy j.file j.copy born ≡ true = has_job_copy j born x in absurd (cc)) | inr x ↦ x ] in
              rw not_born (others j none))
        ]

-- so it is where nothing else changes
pub births_queue : (site : Site) (h : History) (e : Entry) (born : List Job) → IsLegal site (e ∷ h) → AllOf (λ (j : Job). j.birth ≡ length h + 1) born → names_twice born ≡ false
    → ((f c : ℕ) → live_birth site (e ∷ h) f c ≡ (if has_copy f c born then Some (length h + 1) else live_birth site h f c)) → ((f c : ℕ) → has_copy f c born ≡ true → live_birth site h f c ≡ None)
    → may_change_claims e.ask ≡ false → may_change_keys e.ask ≡ false → (way : Direction) (key : ℕ)
    → queue_of site (e ∷ h) way key ≡ insert_jobs (filter (is_of_key site (e ∷ h) way key) born) (queue_of site h way key)
births_queue site h e born legal births once after new claims keys way key =
    births_by site h e born legal births once way key (λ f c there. after f c ∙ rw there refl) new
    (λ j there. (let birth : j.birth ≡ length h + 1 = born_birth (length h + 1) j born births there in claimer_same site h e j legal claims ∙ new_unclaimed site h legal.0 j (omega arith)))
    (λ j none. others j none)
  where
    others : (j : Job) → has_copy j.file j.copy born ≡ false → is_queued site (e ∷ h) way key j ≡ is_queued site h way key j
    others j none =
        (let now : live_birth site (e ∷ h) j.file j.copy ≡ live_birth site h j.file j.copy = after j.file j.copy ∙ rw none refl in
        let live : is_live_job site (e ∷ h) j ≡ is_live_job site h j = ap (is_number j.birth) now in
        ap (λ (b : Bool). queued_by way key j b (claimer_of (e ∷ h) j) (key_of site (e ∷ h) j)) live
        ∙ ap (λ (o : Option ℕ). queued_by way key j (is_live_job site h j) o (key_of site (e ∷ h) j)) (claimer_same site h e j legal claims)
        ∙ key_or way key j (is_live_job site h j) (claimer_of h j) (key_of site (e ∷ h) j) (key_of site h j) (λ on. key_same site e h j (live_low site h legal.0 j on) keys))

-- ---- what a book says of births

-- the live births that a book says
abbrev pub birth_said : Book → ℕ → ℕ → Option ℕ
birth_said b f zero = birth_in (b.recall f)
birth_said b f (suc c) = b.archive f (suc c)

pub birth_told : (site : Site) (h : History) (b : Book) → TellSame b (book_of site h) → (f c : ℕ) → birth_said b f c ≡ live_birth site h f c
birth_told site h b same f zero = ap birth_in (same.recall f)
birth_told site h b same f (suc c) = same.archive f c

pub subscribed_birth : (t : Bool) (n : ℕ) (o : Option Recall) → birth_in (if t then option_map (subscribed true n) o else o) ≡ birth_in o
subscribed_birth true n None = refl
subscribed_birth true n (Some r) = refl
subscribed_birth false n o = refl

pub born_said : (t : Bool) (n : ℕ) (o : Option Recall) → birth_in (if t then Some (record { birth = n; waiting = n ∷ [] }) else o) ≡ (if t then Some n else birth_in o)
born_said true n o = refl
born_said false n o = refl

-- where a book bears jobs and subscribes, the live births are those of before and of the new jobs
pub births_told : (site : Site) (h : History) (e : Entry) (born : List Job) (files : List ℕ) → TellSame (bear_jobs born (length h + 1) (subscribe_files files (length h + 1) (book_of site h))) (book_of site (e ∷ h))
    → (f c : ℕ) → live_birth site (e ∷ h) f c ≡ (if has_copy f c born then Some (length h + 1) else live_birth site h f c)
births_told site h e born files same f zero =
    sym (ap birth_in (same.recall f))
    ∙ born_said (has_copy f 0 born) (length h + 1) (if has_number f files then option_map (subscribed true (length h + 1)) (live_recall site h f) else live_recall site h f)
    ∙ ap (λ (o : Option ℕ). if has_copy f 0 born then Some (length h + 1) else o) (subscribed_birth (has_number f files) (length h + 1) (live_recall site h f))
births_told site h e born files same f (suc c) = sym (same.archive f c)

-- ---- jobs that end and are claimed as before

-- what is live no more leaves its queue, where nothing else changes
pub dead_leave : (site : Site) (h : History) (e : Entry) → IsLegal site (e ∷ h) → ((j : Job) → is_live_job site (e ∷ h) j ≡ true → is_live_job site h j ≡ true) → may_change_claims e.ask ≡ false → may_change_keys e.ask ≡ false
    → (way : Direction) (key : ℕ) → queue_of site (e ∷ h) way key ≡ filter (is_live_job site (e ∷ h)) (queue_of site h way key)
dead_leave site h e legal old claims keys way key = queue_leaves site h (e ∷ h) way key (is_live_job site (e ∷ h)) legal.0 legal (λ j. point j)
  where
    and_true : (x : Bool) → x ≡ (x && true)
    and_true true = refl
    and_true false = refl

    and_false : (x : Bool) → false ≡ (x && false)
    and_false true = refl
    and_false false = refl

    point : (j : Job) → is_queued site (e ∷ h) way key j ≡ (is_queued site h way key j && is_live_job site (e ∷ h) j)
    point j =
        elim (bool_cases (is_live_job site (e ∷ h) j)) [
          | inr dead ↦ rw dead (and_false (is_queued site h way key j))
          | inl live ↦
              (let was : is_live_job site h j ≡ true = old j live in
              let claimer : claimer_of (e ∷ h) j ≡ claimer_of h j = claimer_same site h e j legal claims in
              let same : key_of site (e ∷ h) j ≡ key_of site h j = key_same site e h j (live_low site h legal.0 j was) keys in
              rw (live, was, claimer, same) (and_true (queued_by way key j true (claimer_of h j) (key_of site h j))))
        ]

-- an entry that bears no job leaves live only what was live
pub none_born : (site : Site) (h : History) (e : Entry) → may_bear e.ask ≡ false → (j : Job) → is_live_job site (e ∷ h) j ≡ true → is_live_job site h j ≡ true
none_born site h e bears j now =
    elim (bool_cases (is_live_job site h j)) [ inl was ↦ was | inr d ↦ (let bad : may_bear e.ask ≡ true = birth_new site h e j.file j.copy j.birth d now in absurd (cc)) ]

-- Cancel and DropStage: the recalls that end leave their queues
pub cancel_queue : (site : Site) (h : History) (e : Entry) (who : Who) (id : ℕ) (paths : Listed (List ℕ)) → IsLegal site (e ∷ h) → e.ask ≡ ask.Cancel who id paths → (way : Direction) (key : ℕ) → queue_of site (e ∷ h) way key ≡ filter (is_live_job site (e ∷ h)) (queue_of site h way key)
cancel_queue site h e who id paths legal ek way key = dead_leave site h e legal (none_born site h e (ap may_bear ek)) (ap may_change_claims ek) (ap may_change_keys ek) way key

pub drop_queue : (site : Site) (h : History) (e : Entry) (who : Who) (id : ℕ) → IsLegal site (e ∷ h) → e.ask ≡ ask.DropStage who id → (way : Direction) (key : ℕ) → queue_of site (e ∷ h) way key ≡ filter (is_live_job site (e ∷ h)) (queue_of site h way key)
drop_queue site h e who id legal ek way key = dead_leave site h e legal (none_born site h e (ap may_bear ek)) (ap may_change_claims ek) (ap may_change_keys ek) way key

-- ---- Stage, Repack, Retry

pub stage_queue : (site : Site) (h : History) (e : Entry) (who : Who) (wanted : Listed Wanted) (born : List Job) (files : List ℕ) → IsLegal site (e ∷ h) → e.ask ≡ ask.Stage who wanted
    → TellSame (bear_jobs born (length h + 1) (subscribe_files files (length h + 1) (book_of site h))) (book_of site (e ∷ h))
    → AllOf (λ (j : Job). j.birth ≡ length h + 1) born → names_twice born ≡ false → ((f c : ℕ) → has_copy f c born ≡ true → live_birth site h f c ≡ None) → (way : Direction) (key : ℕ)
    → queue_of site (e ∷ h) way key ≡ insert_jobs (filter (is_of_key site (e ∷ h) way key) born) (queue_of site h way key)
stage_queue site h e who wanted born files legal ek book births once new way key = births_queue site h e born legal births once (births_told site h e born files book) new (ap may_change_claims ek) (ap may_change_keys ek) way key

pub repack_queue : (site : Site) (h : History) (e : Entry) (who : Who) (v : ℕ) (born : List Job) (files : List ℕ) → IsLegal site (e ∷ h) → e.ask ≡ ask.Repack who v
    → TellSame (bear_jobs born (length h + 1) (subscribe_files files (length h + 1) (book_of site h))) (book_of site (e ∷ h))
    → AllOf (λ (j : Job). j.birth ≡ length h + 1) born → names_twice born ≡ false → ((f c : ℕ) → has_copy f c born ≡ true → live_birth site h f c ≡ None) → (way : Direction) (key : ℕ)
    → queue_of site (e ∷ h) way key ≡ insert_jobs (filter (is_of_key site (e ∷ h) way key) born) (queue_of site h way key)
repack_queue site h e who v born files legal ek book births once new way key = births_queue site h e born legal births once (births_told site h e born files book) new (ap may_change_claims ek) (ap may_change_keys ek) way key

pub retry_queue : (site : Site) (h : History) (e : Entry) (who : Who) (paths : Listed (List ℕ)) (born : List Job) → IsLegal site (e ∷ h) → e.ask ≡ ask.Retry who paths
    → TellSame (bear_jobs born (length h + 1) (book_of site h)) (book_of site (e ∷ h))
    → AllOf (λ (j : Job). j.birth ≡ length h + 1) born → names_twice born ≡ false → ((f c : ℕ) → has_copy f c born ≡ true → live_birth site h f c ≡ None) → (way : Direction) (key : ℕ)
    → queue_of site (e ∷ h) way key ≡ insert_jobs (filter (is_of_key site (e ∷ h) way key) born) (queue_of site h way key)
retry_queue site h e who paths born legal ek book births once new way key = births_queue site h e born legal births once (births_told site h e born [] book) new (ap may_change_claims ek) (ap may_change_keys ek) way key
