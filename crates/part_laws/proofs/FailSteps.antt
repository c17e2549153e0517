-- How a Failed changes jobs and queues: what it names comes back to its place, but for what it charges for the last time.
use Rattle.std.proofs.Common.{◌≡◌, ◌∙◌, ℕ, zero, suc, ◌+◌, ◌≤◌, inl, inr, List, [], ◌∷◌, ◌++◌, Bool, true, false, ◌&&◌, ◌||◌, not, refl, sym, ap, length, length-append}
use Rattle.std.specs.Prelude.{Option, Some, None, option_map, if◌then◌else◌, ◌==◌, ◌%◌, slice_get, filter}
use Rattle.std.proofs.lemmas.Bool.{and_parts, eqb-true}
use Rattle.cta_site.specs.declared.site.Site.{Site}
use Rattle.cta_site.specs.Listed.{Listed}
use Rattle.cta_model.specs.declared.entries.Entry.{Entry}
use Rattle.cta_model.specs.declared.asks.Ask.{Ask}
use Rattle.cta_model.specs.declared.asks.Direction.{Direction}
use Rattle.cta_model.specs.declared.asks.Fault.{Fault}
use Rattle.cta_model.specs.declared.asks.Job.{Job}
use Rattle.cta_model.specs.declared.states.Place.{Place}
use Rattle.cta_model.specs.declared.states.Charge.{Charge}
use Rattle.cta_model.specs.History.{History, is_number}
use Rattle.cta_model.specs.Mounts.{asked_mount, tape_of_mount, drive_of_mount, claimer_of, same_direction, has_job, same_job, is_open, job_of}
use Rattle.cta_model.specs.Charges.{charges_of, charges_after, is_last_charge}
use Rattle.cta_model.specs.Recalls.{Recall, live_recall, recall_after, recall_job}
use Rattle.cta_model.specs.Jobs.{archive_birth, archive_after, live_birth, is_live_job}
use Rattle.cta_model.specs.Queues.{queue_of, key_of, direction_of, sources_of, tape_of_recall, is_queued}
use Rattle.cta_model.specs.Answers.{answer_of, is_known, names_twice, claims_all}
use Rattle.cta_model.specs.Legal.{IsLegal}
use Rattle.cta_laws.proofs.Tests.{bool_cases}
use Rattle.cta_laws.proofs.OnceLaw.{birth_in}
use Rattle.cta_laws.proofs.LengthLaw.{not_unknown}
use Rattle.cta_model.specs.declared.asks.Ask.TheVariants as ask
use Rattle.part_laws.proofs.QueueSteps.{key_or, live_low, queued_by, unless_lives}
use Rattle.cta_laws.proofs.Frames.{SameSources, flushed_same, is_live_same, key_kept, sources_kept, state_same}
use Rattle.cta_laws.specs.Changes.{may_change_files, may_change_states, may_flush}
use Rattle.part_laws.proofs.Orders.{has_filter, not_either}
use Rattle.cta_laws.proofs.QuotaLaw.{not_true}
use Rattle.part_laws.proofs.QueueMoves.{queue_enters}
use Rattle.part_model.specs.Order.{insert_jobs}
use Rattle.cta_laws.proofs.Claimers.{Ends, claimer_step, ends_known}
use Rattle.part_laws.proofs.EndSteps.{named_claimed}
use Rattle.cta_laws.specs.Claims.{claimer_after}

-- ---- jobs

failed_recall : (site : Site) (h : History) (e : Entry) (m : ℕ) (fault : Fault) (charged returned : Listed Job) (f b : ℕ) (o : Option Recall) → e.ask ≡ ask.Failed m fault charged returned
    → is_number b (birth_in (recall_after site h e f o)) ≡ (is_number b (birth_in o) && not (is_last_charge site h (ask.Failed m fault charged returned) (recall_job b f)))
failed_recall site h e m fault charged returned f b None ek = rw ek refl
failed_recall site h e m fault charged returned f b (Some r) ek = rw ek (unless_lives b (is_last_charge site h (ask.Failed m fault charged returned) (recall_job r.birth f)) r ∙ by (b == r.birth) refl)
  where
    by : (t : Bool) → (b == r.birth) ≡ t → (t && not (is_last_charge site h (ask.Failed m fault charged returned) (recall_job r.birth f))) ≡ (t && not (is_last_charge site h (ask.Failed m fault charged returned) (recall_job b f)))
    by true is = ap (λ (n : ℕ). not (is_last_charge site h (ask.Failed m fault charged returned) (recall_job n f))) (sym (eqb-true b r.birth is))
    by false is = refl

failed_archive : (site : Site) (h : History) (e : Entry) (m : ℕ) (fault : Fault) (charged returned : Listed Job) (f c b : ℕ) (o : Option ℕ) → e.ask ≡ ask.Failed m fault charged returned
    → is_number b (archive_after site h e f c o) ≡ (is_number b o && not (is_last_charge site h (ask.Failed m fault charged returned) (job_of b f c)))
failed_archive site h e m fault charged returned f c b None ek = rw ek refl
failed_archive site h e m fault charged returned f c b (Some n) ek = rw ek (split (is_last_charge site h (ask.Failed m fault charged returned) (job_of n f c)) ∙ by (b == n) refl)
  where
    split : (t : Bool) → is_number b (if t then None else Some n) ≡ ((b == n) && not t)
    split true = none (b == n)
      where
        none : (x : Bool) → false ≡ (x && false)
        none true = refl
        none false = refl
    split false = one (b == n)
      where
        one : (x : Bool) → x ≡ (x && true)
        one true = refl
        one false = refl

    by : (t : Bool) → (b == n) ≡ t → (t && not (is_last_charge site h (ask.Failed m fault charged returned) (job_of n f c))) ≡ (t && not (is_last_charge site h (ask.Failed m fault charged returned) (job_of b f c)))
    by true is = ap (λ (x : ℕ). not (is_last_charge site h (ask.Failed m fault charged returned) (job_of x f c))) (sym (eqb-true b n is))
    by false is = refl

-- a Failed ends the jobs that it charges for the last time
pub failed_live : (site : Site) (h : History) (e : Entry) (m : ℕ) (fault : Fault) (charged returned : Listed Job) (j : Job) → e.ask ≡ ask.Failed m fault charged returned
    → is_live_job site (e ∷ h) j ≡ (is_live_job site h j && not (is_last_charge site h (ask.Failed m fault charged returned) j))
failed_live site h e m fault charged returned j ek = by j.copy refl
  where
    by : (c : ℕ) → j.copy ≡ c → is_number j.birth (live_birth site (e ∷ h) j.file c) ≡ (is_number j.birth (live_birth site h j.file c) && not (is_last_charge site h (ask.Failed m fault charged returned) j))
    by zero is =
        failed_recall site h e m fault charged returned j.file j.birth (live_recall site h j.file) ek
        ∙ ap (λ (n : ℕ). is_number j.birth (live_birth site h j.file 0) && not (is_last_charge site h (ask.Failed m fault charged returned) (job_of j.birth j.file n))) (sym is)
    by (suc c) is =
        failed_archive site h e m fault charged returned j.file (suc c) j.birth (archive_birth site h j.file (suc c)) ek
        ∙ ap (λ (n : ℕ). is_number j.birth (live_birth site h j.file (suc c)) && not (is_last_charge site h (ask.Failed m fault charged returned) (job_of j.birth j.file n))) (sym is)

-- ---- charges and keys

-- a Failed adds a charge to what it charges, and to nothing else
pub failed_charges : (e : Entry) (h : History) (m : ℕ) (fault : Fault) (charged returned : Listed Job) (j : Job) → e.ask ≡ ask.Failed m fault charged returned
    → charges_of (e ∷ h) j ≡ (if has_job j charged.items then charges_of h j ++ record { drive = drive_of_mount h m; tape = tape_of_mount h m; fault = fault } ∷ [] else charges_of h j)
failed_charges e h m fault charged returned j ek = ap (λ (k : Ask). charges_after k j (drive_of_mount h (asked_mount k)) (tape_of_mount h (asked_mount k)) (charges_of h j)) ek

pub failed_sources : (site : Site) (h : History) (e : Entry) (m : ℕ) (fault : Fault) (charged returned : Listed Job) (f : ℕ) → f ≤ length h → e.ask ≡ ask.Failed m fault charged returned → SameSources site e h f
failed_sources site h e m fault charged returned f low ek =
    record { low = low; live = is_live_same e h f low (ap may_change_files ek); flushed = λ c. flushed_same e h f c (ap may_flush ek); state = λ v. state_same site e h v (ap may_change_states ek) }

-- the next source of a charged recall
pub failed_tape : (site : Site) (h : History) (e : Entry) (m : ℕ) (fault : Fault) (charged returned : Listed Job) (j : Job) → j.file ≤ length h → e.ask ≡ ask.Failed m fault charged returned → has_job j charged.items ≡ true
    → tape_of_recall site (e ∷ h) j ≡ option_map (λ (p : Place). p.tape) (slice_get (sources_of site h j.file) ((length (charges_of h j) + 1) % length (sources_of site h j.file)))
failed_tape site h e m fault charged returned j low ek there =
    (let sources : sources_of site (e ∷ h) j.file ≡ sources_of site h j.file = sources_kept site e h j.file (failed_sources site h e m fault charged returned j.file low ek) in
    let charges : length (charges_of (e ∷ h) j) ≡ length (charges_of h j) + 1 = ap (λ (cs : List Charge). length cs) (failed_charges e h m fault charged returned j ek) ∙ rw there (length-append (charges_of h j) (record { drive = drive_of_mount h m; tape = tape_of_mount h m; fault = fault } ∷ [])) in
    ap (λ (xs : List Place). option_map (λ (p : Place). p.tape) (slice_get xs (length (charges_of (e ∷ h) j) % length xs))) sources
    ∙ ap (λ (n : ℕ). option_map (λ (p : Place). p.tape) (slice_get (sources_of site h j.file) (n % length (sources_of site h j.file)))) charges)

-- ---- queues

-- whether a job that a Failed names comes back to this queue: it is live still, and has the key
abbrev pub comes_back : Site → History → Direction → ℕ → Job → Bool
comes_back site h way key j = is_live_job site h j && (same_direction way (direction_of j) && is_number key (key_of site h j))

pub twice_filter : (test : Job → Bool) (js : List Job) → names_twice js ≡ false → names_twice (filter test js) ≡ false
twice_filter test [] d = refl
twice_filter test (j ∷ js) d =
    (let parts : (has_job j js ≡ false) × (names_twice js ≡ false) = not_either (has_job j js) (names_twice js) d in
    elim (test j) as (λ b. names_twice (if b then j ∷ filter test js else filter test js) ≡ false) [
      | true ↦ (let here : has_job j (filter test js) ≡ false = has_filter test j js ∙ ap (λ (b : Bool). b && test j) parts.0 in rw here (twice_filter test js parts.1))
      | false ↦ twice_filter test js parts.1
    ])

pub known_once : (h : History) (m : ℕ) (js : List Job) → is_known h m js ≡ true → names_twice js ≡ false
known_once h m js known = not_true (names_twice js) (and_parts (claims_all h m js) _ (and_parts (is_open h m) _ known).1).1

pub has_pair : (j : Job) (xs ys : List Job) → has_job j (xs ++ ys) ≡ false → has_job j xs ≡ false
has_pair j [] ys d = refl
has_pair j (x ∷ xs) ys d = (let parts : (same_job j x ≡ false) × (has_job j (xs ++ ys) ≡ false) = not_either (same_job j x) (has_job j (xs ++ ys)) d in rw parts.0 (has_pair j xs ys parts.1))

-- what a Failed names, and is live still, comes back to its place in the queue of its key
pub failed_queue : (site : Site) (h : History) (e : Entry) (m : ℕ) (fault : Fault) (charged returned : Listed Job) → IsLegal site (e ∷ h) → e.ask ≡ ask.Failed m fault charged returned → (way : Direction) (key : ℕ)
    → queue_of site (e ∷ h) way key ≡ insert_jobs (filter (comes_back site (e ∷ h) way key) (charged.items ++ returned.items)) (queue_of site h way key)
failed_queue site h e m fault charged returned legal ek way key =
    queue_enters site h (e ∷ h) way key (filter (comes_back site (e ∷ h) way key) (charged.items ++ returned.items)) legal.0 legal
    (twice_filter (comes_back site (e ∷ h) way key) (charged.items ++ returned.items) (known_once h m (charged.items ++ returned.items) known))
    (λ j there. apart j (first (has_job j (charged.items ++ returned.items)) (comes_back site (e ∷ h) way key j) (sym (has_filter (comes_back site (e ∷ h) way key) j (charged.items ++ returned.items)) ∙ there)))
    (λ j. point j ∙ ap (λ (b : Bool). b || is_queued site h way key j) (sym (has_filter (comes_back site (e ∷ h) way key) j (charged.items ++ returned.items))))
  where
    known : is_known h m (charged.items ++ returned.items) ≡ true
    known = not_unknown (is_known h m (charged.items ++ returned.items)) _ e.answer (legal.1.answered ∙ ap (answer_of site h e.at) ek) legal.1.accepted

    ends : Ends site h m (charged.items ++ returned.items)
    ends = ends_known site h m (charged.items ++ returned.items) known

    first : (a b : Bool) → (a && b) ≡ true → a ≡ true
    first true b x = refl
    first false b x = absurd (cc)

    no_key : (a b c : Bool) → (a && (b && (false && c))) ≡ false
    no_key true true c = refl
    no_key true false c = refl
    no_key false b c = refl

    apart : (j : Job) → has_job j (charged.items ++ returned.items) ≡ true → is_queued site h way key j ≡ false
    apart j there = rw (named_claimed site h m (charged.items ++ returned.items) j legal.0 ends there) (no_key (is_live_job site h j) (same_direction way (direction_of j)) (is_number key (key_of site h j)))

    claimer : (j : Job) → claimer_of (e ∷ h) j ≡ (if has_job j (charged.items ++ returned.items) then None else claimer_of h j)
    claimer j = claimer_step site h e legal j ∙ ap (λ (k : Ask). claimer_after k e.answer j (claimer_of h j)) ek

    or_false : (b : Bool) → (b || false) ≡ b
    or_false true = refl
    or_false false = refl

    and_true : (x : Bool) → (x && true) ≡ x
    and_true true = refl
    and_true false = refl

    point : (j : Job) → is_queued site (e ∷ h) way key j ≡ ((has_job j (charged.items ++ returned.items) && comes_back site (e ∷ h) way key j) || is_queued site h way key j)
    point j =
        elim (bool_cases (has_job j (charged.items ++ returned.items))) [
          | inl there ↦
              (let free : claimer_of (e ∷ h) j ≡ None = claimer j ∙ rw there refl in
              rw (there, apart j there, free) (sym (or_false (comes_back site (e ∷ h) way key j))))
          | inr other ↦
              (let same : claimer_of (e ∷ h) j ≡ claimer_of h j = claimer j ∙ rw other refl in
              let uncharged : has_job j charged.items ≡ false = has_pair j charged.items returned.items other in
              let last : is_last_charge site h (ask.Failed m fault charged returned) j ≡ false = rw uncharged refl in
              let live : is_live_job site (e ∷ h) j ≡ is_live_job site h j = failed_live site h e m fault charged returned j ek ∙ rw last (and_true (is_live_job site h j)) in
              let charges : charges_of (e ∷ h) j ≡ charges_of h j = failed_charges e h m fault charged returned j ek ∙ rw uncharged refl in
              rw other (
              ap (λ (b : Bool). queued_by way key j b (claimer_of (e ∷ h) j) (key_of site (e ∷ h) j)) live
              ∙ ap (λ (o : Option ℕ). queued_by way key j (is_live_job site h j) o (key_of site (e ∷ h) j)) same
              ∙ key_or way key j (is_live_job site h j) (claimer_of h j) (key_of site (e ∷ h) j) (key_of site h j) (λ on. key_kept site e h j (failed_sources site h e m fault charged returned j.file (live_low site h legal.0 j on) ek) charges)))
        ]
