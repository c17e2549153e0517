-- How a Recalled and a TapeState change queues.
use Rattle.std.proofs.Common.{◌≡◌, ◌∙◌, ℕ, zero, suc, ◌+◌, inl, inr, List, [], ◌∷◌, Bool, true, false, ◌&&◌, ◌||◌, not, refl, sym, ap, subst, arith, length}
use Rattle.std.specs.Prelude.{Option, Some, None, is_none, is_some, if◌then◌else◌, ◌==◌, filter}
use Rattle.std.proofs.lemmas.Bool.{and_parts, eqb-true}
use Rattle.cta_site.specs.declared.site.Site.{Site}
use Rattle.cta_site.specs.declared.site.TapeState.{TapeState}
use Rattle.cta_model.specs.declared.entries.Entry.{Entry}
use Rattle.cta_model.specs.declared.asks.Ask.{Ask}
use Rattle.cta_model.specs.declared.asks.Direction.{Direction}
use Rattle.cta_model.specs.declared.asks.Who.{Who}
use Rattle.cta_model.specs.declared.asks.Job.{Job}
use Rattle.cta_model.specs.History.{History, is_number}
use Rattle.cta_model.specs.Mounts.{claimer_of, same_direction, has_job, same_job, has_copy, job_of}
use Rattle.cta_model.specs.Recalls.{Recall, live_recall, recall_after, recall_job}
use Rattle.cta_model.specs.Jobs.{archive_birth, archive_after, live_birth, is_live_job, may_bear}
use Rattle.cta_model.specs.RepackItems.{is_repacked}
use Rattle.cta_model.specs.Queues.{queue_of, key_of, key_by, direction_of, way_by, is_queued}
use Rattle.cta_model.specs.Answers.{answer_of, is_known, names_twice}
use Rattle.cta_model.specs.Legal.{IsLegal}
use Rattle.cta_laws.proofs.Tests.{bool_cases}
use Rattle.cta_laws.proofs.Claims.{AllOf}
use Rattle.cta_laws.proofs.OnceLaw.{birth_in, same_job_eq}
use Rattle.cta_laws.proofs.LengthLaw.{not_unknown}
use Rattle.cta_model.specs.declared.asks.Ask.TheVariants as ask
use Rattle.cta_model.specs.declared.asks.Fate.TheVariants as fate
use Rattle.cta_model.specs.declared.answers.Answer.TheVariants as answer
use Rattle.cta_model.specs.declared.asks.Direction.TheVariants as direction
use Rattle.part_laws.proofs.EndSteps.{flip_same, flushed_shift, named_claimed}
use Rattle.part_laws.proofs.QueueSteps.{key_or, live_low, queued_by, unless_lives}
use Rattle.cta_laws.proofs.JobFiles.{arrived_live, no_archive, recall_copy, recalled_way}
use Rattle.part_laws.proofs.BirthSteps.{births_by, born_birth, is_of_key, none_born}
use Rattle.cta_laws.proofs.Frames.{claimer_same, key_same, pool_kept}
use Rattle.part_laws.proofs.Births.{new_unclaimed}
use Rattle.part_model.specs.Order.{insert_jobs}
use Rattle.cta_laws.proofs.Claimers.{Ends, claimer_step, ends_known}
use Rattle.part_laws.specs.Queued.{waits_in_queue}
use Rattle.cta_laws.specs.Changes.{may_change_claims, may_change_keys}
use Rattle.cta_laws.specs.Claims.{claimer_after}
use Rattle.part_laws.proofs.QueueMoves.{queue_moves, queue_stays}

-- ---- Recalled

recalled_recall : (site : Site) (h : History) (e : Entry) (m : ℕ) (job : Job) (f b : ℕ) (o : Option Recall) → e.ask ≡ ask.Recalled m job → e.answer ≡ answer.Arrived fate.Done
    → is_number b (birth_in (recall_after site h e f o)) ≡ (is_number b (birth_in o) && not (has_job (job_of b f 0) (job ∷ [])))
recalled_recall site h e m job f b None ek ea = rw ek refl
recalled_recall site h e m job f b (Some r) ek ea = rw (ek, ea) (unless_lives b (same_job job (recall_job r.birth f)) r ∙ by (b == r.birth) refl)
  where
    or_false : (x : Bool) → x ≡ (x || false)
    or_false true = refl
    or_false false = refl

    by : (t : Bool) → (b == r.birth) ≡ t → (t && not (same_job job (recall_job r.birth f))) ≡ (t && not (same_job (job_of b f 0) job || false))
    by true is = ap (λ (n : ℕ). not (same_job job (recall_job n f))) (sym (eqb-true b r.birth is)) ∙ ap not (flip_same job (job_of b f 0) ∙ or_false (same_job (job_of b f 0) job))
    by false is = refl

recalled_archive : (site : Site) (h : History) (e : Entry) (m : ℕ) (job : Job) (f c : ℕ) (o : Option ℕ) → e.ask ≡ ask.Recalled m job → e.answer ≡ answer.Arrived fate.Done → (job.file == f && is_repacked site h f c) ≡ false → archive_after site h e f c o ≡ o
recalled_archive site h e m job f c None ek ea none = rw (ek, ea) (rw none refl)
recalled_archive site h e m job f c (Some b) ek ea none = rw ek refl

-- a Recalled ends its recall; other live jobs that it does not bear live on
recalled_live : (site : Site) (h : History) (e : Entry) (m : ℕ) (job j : Job) → IsLegal site (e ∷ h) → e.ask ≡ ask.Recalled m job → e.answer ≡ answer.Arrived fate.Done → ((c : ℕ) → j.copy ≡ suc c → (job.file == j.file && is_repacked site h j.file (suc c)) ≡ false)
    → is_live_job site (e ∷ h) j ≡ (is_live_job site h j && not (has_job j (job ∷ [])))
recalled_live site h e m job j legal ek ea none = by j.copy refl
  where
    copy : job.copy ≡ 0
    copy = recall_copy job.copy (recalled_way site h e m job legal ek)

    and_true : (x : Bool) → x ≡ (x && true)
    and_true true = refl
    and_true false = refl

    other : (c : ℕ) → j.copy ≡ suc c → has_job j (job ∷ []) ≡ false
    other c is =
        elim (bool_cases (same_job j job)) [
          | inl hit ↦ (let same : j.copy ≡ job.copy = ap (λ (k : Job). k.copy) (same_job_eq j job hit) in let zero_copy : job.copy ≡ 0 = copy in absurd (omega arith))
          | inr miss ↦ rw miss refl
        ]

    by : (c : ℕ) → j.copy ≡ c → is_number j.birth (live_birth site (e ∷ h) j.file c) ≡ (is_number j.birth (live_birth site h j.file c) && not (has_job j (job ∷ [])))
    by zero is = recalled_recall site h e m job j.file j.birth (live_recall site h j.file) ek ea ∙ ap (λ (n : ℕ). is_number j.birth (live_birth site h j.file 0) && not (has_job (job_of j.birth j.file n) (job ∷ []))) (sym is)
    by (suc c) is = ap (is_number j.birth) (recalled_archive site h e m job j.file (suc c) (archive_birth site h j.file (suc c)) ek ea (none c is)) ∙ and_true (is_number j.birth (live_birth site h j.file (suc c))) ∙ ap (λ (b : Bool). is_number j.birth (live_birth site h j.file (suc c)) && not b) (sym (other c is))

-- a Recalled that is told Done changes no queue but for the archive jobs that it bears, for the repacked copies of its file
pub recalled_queue : (site : Site) (h : History) (e : Entry) (m : ℕ) (job : Job) (born : List Job) → IsLegal site (e ∷ h) → e.ask ≡ ask.Recalled m job → e.answer ≡ answer.Arrived fate.Done
    → AllOf (λ (j : Job). j.birth ≡ length h + 1) born → names_twice born ≡ false → ((f : ℕ) → has_copy f 0 born ≡ false) → ((f c : ℕ) → has_copy f (suc c) born ≡ ((job.file == f) && is_repacked site h f (suc c)))
    → (way : Direction) (key : ℕ) → queue_of site (e ∷ h) way key ≡ insert_jobs (filter (is_of_key site (e ∷ h) way key) born) (queue_of site h way key)
recalled_queue site h e m job born legal ek ea births once no_recall copies way key =
    births_by site h e born legal births once way key (λ f c there. now f c there) (λ f c there. new f c there)
    (λ j there. (let birth : j.birth ≡ length h + 1 = born_birth (length h + 1) j born births there in claimer j ∙ ap (λ (o : Option ℕ). if has_job j (job ∷ []) then None else o) (new_unclaimed site h legal.0 j (omega arith)) ∙ either (has_job j (job ∷ []))))
    (λ j none. others j none)
  where
    answered : e.answer ≡ answer_of site h e.at (ask.Recalled m job)
    answered = legal.1.answered ∙ ap (answer_of site h e.at) ek

    ends : Ends site h m (job ∷ [])
    ends = ends_known site h m (job ∷ []) (not_unknown (is_known h m (job ∷ [])) _ e.answer answered legal.1.accepted)

    live : is_live_job site h job ≡ true
    live = arrived_live (is_live_job site h job) (not (is_known h m (job ∷ []))) (sym ea ∙ answered)

    on : is_some (live_recall site h job.file) ≡ true
    on = some_recall (live_recall site h job.file) (subst (λ (c : ℕ). is_number job.birth (live_birth site h job.file c) ≡ true) (recall_copy job.copy (recalled_way site h e m job legal ek)) live)
      where
        some_recall : (o : Option Recall) → is_number job.birth (birth_in o) ≡ true → is_some o ≡ true
        some_recall None x = absurd (cc)
        some_recall (Some r) x = refl

    either : (b : Bool) → ◌≡◌ {A = Option ℕ} (if b then None else None) None
    either true = refl
    either false = refl

    claimer : (j : Job) → claimer_of (e ∷ h) j ≡ (if has_job j (job ∷ []) then None else claimer_of h j)
    claimer j = claimer_step site h e legal j ∙ ap (λ (k : Ask). claimer_after k e.answer j (claimer_of h j)) ek

    new : (f c : ℕ) → has_copy f c born ≡ true → live_birth site h f c ≡ None
    new f zero there = (let bad : has_copy f 0 born ≡ false = no_recall f in absurd (cc))
    new f (suc c) there =
        (let parts : (job.file == f ≡ true) × (is_repacked site h f (suc c) ≡ true) = and_parts _ _ (sym (copies f c) ∙ there) in
        no_archive site h legal.0 f c (subst (λ (n : ℕ). is_some (live_recall site h n) ≡ true) (eqb-true job.file f parts.0) on))

    bears : (f c : ℕ) (o : Option ℕ) → o ≡ None → (job.file == f && is_repacked site h f (suc c)) ≡ true → archive_after site h e f (suc c) o ≡ Some (length h + 1)
    bears f c None is hit = rw (ek, ea) (rw hit refl)
    bears f c (Some b) is hit = absurd (cc)

    now : (f c : ℕ) → has_copy f c born ≡ true → live_birth site (e ∷ h) f c ≡ Some (length h + 1)
    now f zero there = (let bad : has_copy f 0 born ≡ false = no_recall f in absurd (cc))
    now f (suc c) there = bears f c (archive_birth site h f (suc c)) (new f (suc c) there) (sym (copies f c) ∙ there)

    live_first : (a b : Bool) → (a && not b) ≡ true → a ≡ true
    live_first true b x = refl
    live_first false b x = absurd (cc)

    others : (j : Job) → has_copy j.file j.copy born ≡ false → is_queued site (e ∷ h) way key j ≡ is_queued site h way key j
    others j none =
        ap (λ (b : Bool). queued_by way key j b (claimer_of (e ∷ h) j) (key_of site (e ∷ h) j)) (recalled_live site h e m job j legal ek ea (λ c is. sym (copies j.file c) ∙ subst (λ (n : ℕ). has_copy j.file n born ≡ false) is none))
        ∙ ap (λ (o : Option ℕ). queued_by way key j (is_live_job site h j && not (has_job j (job ∷ []))) o (key_of site (e ∷ h) j)) (claimer j)
        ∙ key_or way key j (is_live_job site h j && not (has_job j (job ∷ []))) (if has_job j (job ∷ []) then None else claimer_of h j) (key_of site (e ∷ h) j) (key_of site h j) (λ both. key_same site e h j (live_low site h legal.0 j (live_first (is_live_job site h j) (has_job j (job ∷ [])) both)) (ap may_change_keys ek))
        ∙ flushed_shift (is_live_job site h j) (has_job j (job ∷ [])) (same_direction way (direction_of j)) (is_number key (key_of site h j)) m (claimer_of h j) (λ there. named_claimed site h m (job ∷ []) j legal.0 ends there)

-- ---- TapeState

state_archive : (site : Site) (h : History) (e : Entry) (who : Who) (v : ℕ) (s : TapeState) (f c : ℕ) (o : Option ℕ) → e.ask ≡ ask.TapeState who v s → archive_after site h e f c o ≡ o
state_archive site h e who v s f c None ek = rw ek refl
state_archive site h e who v s f c (Some b) ek = rw ek refl

-- a TapeState leaves the queues of pools
pub state_pools : (site : Site) (h : History) (e : Entry) (who : Who) (v : ℕ) (s : TapeState) → IsLegal site (e ∷ h) → e.ask ≡ ask.TapeState who v s → (pool : ℕ) → queue_of site (e ∷ h) direction.Archive pool ≡ queue_of site h direction.Archive pool
state_pools site h e who v s legal ek pool = queue_stays site h (e ∷ h) direction.Archive pool legal.0 legal (λ j. point j)
  where
    no_way : (a : Bool) → (a && false) ≡ false
    no_way true = refl
    no_way false = refl

    by : (j : Job) (c : ℕ) → j.copy ≡ c → is_queued site (e ∷ h) direction.Archive pool j ≡ is_queued site h direction.Archive pool j
    by j zero is =
        (let way : same_direction direction.Archive (direction_of j) ≡ false = ap (λ (n : ℕ). same_direction direction.Archive (way_by n)) is in
        rw way (no_way (is_live_job site (e ∷ h) j) ∙ sym (no_way (is_live_job site h j))))
    by j (suc c) is =
        (let now : archive_birth site (e ∷ h) j.file (suc c) ≡ archive_birth site h j.file (suc c) = state_archive site h e who v s j.file (suc c) (archive_birth site h j.file (suc c)) ek in
        let live : is_live_job site (e ∷ h) j ≡ is_live_job site h j = subst (λ (n : ℕ). is_number j.birth (live_birth site (e ∷ h) j.file n) ≡ is_number j.birth (live_birth site h j.file n)) (sym is) (ap (is_number j.birth) now) in
        ap (λ (b : Bool). queued_by direction.Archive pool j b (claimer_of (e ∷ h) j) (key_of site (e ∷ h) j)) live
        ∙ ap (λ (o : Option ℕ). queued_by direction.Archive pool j (is_live_job site h j) o (key_of site (e ∷ h) j)) (claimer_same site h e j legal (ap may_change_claims ek))
        ∙ key_or direction.Archive pool j (is_live_job site h j) (claimer_of h j) (key_of site (e ∷ h) j) (key_of site h j) (λ on. subst (λ (n : ℕ). key_by n site (e ∷ h) j ≡ key_by n site h j) (sym is) (pool_kept site e h j (live_low site h legal.0 j on))))

    point : (j : Job) → is_queued site (e ∷ h) direction.Archive pool j ≡ is_queued site h direction.Archive pool j
    point j = by j j.copy refl

-- after a TapeState those recalls are queued under a key that were queued, are live still, and have the key now
pub state_point : (site : Site) (h : History) (e : Entry) (who : Who) (v : ℕ) (s : TapeState) → IsLegal site (e ∷ h) → e.ask ≡ ask.TapeState who v s → (tape : ℕ) (j : Job)
    → is_queued site (e ∷ h) direction.Retrieve tape j ≡ (waits_in_queue site h j && (is_live_job site (e ∷ h) j && is_number tape (key_of site (e ∷ h) j)))
state_point site h e who v s legal ek tape j =
    (let claimer : claimer_of (e ∷ h) j ≡ claimer_of h j = claimer_same site h e j legal (ap may_change_claims ek) in
    ap (λ (o : Option ℕ). queued_by direction.Retrieve tape j (is_live_job site (e ∷ h) j) o (key_of site (e ∷ h) j)) claimer
    ∙ by (is_live_job site (e ∷ h) j) refl)
  where
    shift : (a d n k : Bool) → a ≡ true → (d && (n && k)) ≡ ((a && (d && n)) && k)
    shift true true n k e = refl
    shift true false n k e = refl
    shift false d n k e = absurd (cc)

    none : (x : Bool) → false ≡ (x && false)
    none true = refl
    none false = refl

    by : (live : Bool) → is_live_job site (e ∷ h) j ≡ live → (live && (same_direction direction.Retrieve (direction_of j) && (is_none (claimer_of h j) && is_number tape (key_of site (e ∷ h) j)))) ≡ (waits_in_queue site h j && (live && is_number tape (key_of site (e ∷ h) j)))
    by true is = shift (is_live_job site h j) (same_direction direction.Retrieve (direction_of j)) (is_none (claimer_of h j)) (is_number tape (key_of site (e ∷ h) j)) (none_born site h e (ap may_bear ek) j is)
    by false is = none (waits_in_queue site h j)

-- a TapeState takes out of the queue of a tape what has ended or has another key now, and puts in what comes of other queues
pub state_queue : (site : Site) (h : History) (e : Entry) (who : Who) (v : ℕ) (s : TapeState) (tape : ℕ) (come : List Job) → IsLegal site (e ∷ h) → e.ask ≡ ask.TapeState who v s → names_twice come ≡ false
    → ((j : Job) → has_job j come ≡ (waits_in_queue site h j && (not (is_number tape (key_of site h j)) && (is_live_job site (e ∷ h) j && is_number tape (key_of site (e ∷ h) j)))))
    → queue_of site (e ∷ h) direction.Retrieve tape ≡ insert_jobs come (filter (λ j. is_live_job site (e ∷ h) j && is_number tape (key_of site (e ∷ h) j)) (queue_of site h direction.Retrieve tape))
state_queue site h e who v s tape come legal ek once comes =
    queue_moves site h (e ∷ h) direction.Retrieve tape (λ j. is_live_job site (e ∷ h) j && is_number tape (key_of site (e ∷ h) j)) come legal.0 legal once
    (λ j there. apart (is_live_job site h j) (same_direction direction.Retrieve (direction_of j)) (is_none (claimer_of h j)) (is_number tape (key_of site h j)) (is_live_job site (e ∷ h) j && is_number tape (key_of site (e ∷ h) j)) (sym (comes j) ∙ there))
    (λ j. state_point site h e who v s legal ek tape j
    ∙ split (is_live_job site h j) (same_direction direction.Retrieve (direction_of j)) (is_none (claimer_of h j)) (is_number tape (key_of site h j)) (is_live_job site (e ∷ h) j && is_number tape (key_of site (e ∷ h) j))
    ∙ ap (λ (b : Bool). b || (is_queued site h direction.Retrieve tape j && (is_live_job site (e ∷ h) j && is_number tape (key_of site (e ∷ h) j)))) (sym (comes j)))
  where
    apart : (a d n k x : Bool) → ((a && (d && n)) && (not k && x)) ≡ true → ((a && (d && (n && k))) && x) ≡ false
    apart true true true true x e = absurd (cc)
    apart true true true false x e = refl
    apart true true false k x e = absurd (cc)
    apart true false n k x e = absurd (cc)
    apart false d n k x e = absurd (cc)

    split : (a d n k x : Bool) → ((a && (d && n)) && x) ≡ (((a && (d && n)) && (not k && x)) || ((a && (d && (n && k))) && x))
    split true true true true x = refl
    split true true true false true = refl
    split true true true false false = refl
    split true true false k x = refl
    split true false n k x = refl
    split false d n k x = refl
