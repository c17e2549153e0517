-- The copies that fail by their last charge.
use Rattle.std.proofs.Common.{◌≡◌, ◌∙◌, ℕ, zero, suc, ◌+◌, ◌≤◌, ◌<◌, inl, inr, List, [], ◌∷◌, ◌++◌, Bool, true, false, ◌&&◌, ◌||◌, not, refl, sym, ap, subst, arith, length}
use Rattle.std.specs.Prelude.{Option, Some, None, is_none, is_some, if◌then◌else◌, ◌==◌, nat_le, nat_lt, filter}
use Rattle.std.proofs.lemmas.Bool.{and_from, and_parts, eqb-true, eq-eqb, cases_lt, leb-true, le-leb, lt-ltb}
use Rattle.cta_site.specs.declared.site.Site.{Site}
use Rattle.cta_site.specs.Listed.{Listed}
use Rattle.cta_model.specs.declared.entries.Entry.{Entry}
use Rattle.cta_model.specs.declared.asks.Ask.{Ask}
use Rattle.cta_model.specs.declared.asks.Ask.TheVariants as ask
use Rattle.cta_model.specs.declared.asks.Fault.{Fault}
use Rattle.cta_model.specs.declared.asks.Job.{Job}
use Rattle.cta_model.specs.declared.answers.Answer.TheVariants as answer
use Rattle.cta_model.specs.declared.states.Place.{Place}
use Rattle.cta_model.specs.History.{History, is_number}
use Rattle.cta_model.specs.Files.{copies_of_file, is_live}
use Rattle.cta_model.specs.Mounts.{has_copy, has_job, job_of, same_job}
use Rattle.cta_model.specs.Places.{last_flushed, place_of, was_flushed}
use Rattle.cta_model.specs.Charges.{is_last_charge}
use Rattle.cta_model.specs.Jobs.{archive_after, archive_birth, is_live_job, live_birth}
use Rattle.cta_model.specs.Answers.{answer_of, is_known, names_twice}
use Rattle.cta_model.specs.Legal.{IsLegal}
use Rattle.cta_laws.specs.Changes.{may_change_files, may_flush}
use Rattle.cta_laws.proofs.Bools.{same_bool}
use Rattle.cta_laws.proofs.Claims.{AllOf, all_pass}
use Rattle.cta_laws.proofs.Frames.{flushed_same, is_live_same}
use Rattle.cta_laws.proofs.JobFiles.{archive_resident, resident_parts}
use Rattle.cta_laws.proofs.JobLaw.{among}
use Rattle.cta_laws.proofs.LengthLaw.{not_unknown}
use Rattle.cta_laws.proofs.JobLists.{job_self}
use Rattle.part_laws.proofs.BirthSteps.{has_job_copy}
use Rattle.part_laws.proofs.FailSteps.{has_pair, known_once, twice_filter}
use Rattle.cta_laws.proofs.RangeLaw.{archive_range}
use Rattle.cta_laws.proofs.Tests.{bool_cases, or_cases, or_left, or_right}
use Rattle.part_model.specs.Failed.{added_copies, copies_of_jobs}
use Rattle.part_laws.proofs.Orders.{has_filter, not_either}
use Rattle.part_laws.specs.Failed.{failed_jobs, is_lost}
use Rattle.part_laws.proofs.FailedMembers.{has_failed}
use Rattle.part_laws.proofs.Failures.{high_failed, low_failed}
use Rattle.part_laws.proofs.FailedLists.{copies_members, list_grows, zero_no}

copy_named : (f c : ℕ) (js : List Job) → has_copy f c js ≡ true → (j : Job) × (has_job j js ≡ true) × (j.file ≡ f) × (j.copy ≡ c)
copy_named f c [] e = absurd (cc)
copy_named f c (j ∷ js) e =
    elim (or_cases (j.file == f && j.copy == c) (has_copy f c js) e) [
      | inl hit ↦ (let both = and_parts (j.file == f) (j.copy == c) hit in (j, or_left (same_job j j) _ (job_self j), eqb-true _ _ both.0, eqb-true _ _ both.1))
      | inr rest ↦ (let k = copy_named f c js rest in (k.0, or_right (same_job k.0 j) _ k.1, k.2, k.3))
    ]

-- a live job of a copy from 1 is the live archive job of the copy
live_archive : (site : Site) (h : History) (j : Job) (f c : ℕ) → j.file ≡ f → j.copy ≡ suc c → is_live_job site h j ≡ true → is_number j.birth (archive_birth site h f (suc c)) ≡ true
live_archive site h j f c file copy live = subst (λ (n : ℕ). is_number j.birth (live_birth site h f n) ≡ true) copy (subst (λ (n : ℕ). is_number j.birth (live_birth site h n j.copy) ≡ true) file live)

one_number : (a b : ℕ) (o : Option ℕ) → is_number a o ≡ true → is_number b o ≡ true → a ≡ b
one_number a b None x y = absurd (cc)
one_number a b (Some n) x y = eqb-true a n x ∙ sym (eqb-true b n y)

one_job : (a b c x y z : ℕ) → a ≡ x → b ≡ y → c ≡ z → job_of a b c ≡ job_of x y z
one_job a b c x y z p q r = ap (λ (n : ℕ). job_of n b c) p ∙ ap (λ (n : ℕ). job_of x n c) q ∙ ap (λ (n : ℕ). job_of x y n) r

from_one : (c : ℕ) → 1 ≤ c → (d : ℕ) × (c ≡ suc d)
from_one zero low = absurd (omega arith)
from_one (suc d) low = (d, refl)

-- live jobs, none twice, are of copies, none twice
copies_once : (site : Site) (h : History) (k : Ask) (js : List Job) → AllOf (λ j. is_lost site h k j ≡ true) js → names_twice js ≡ false → names_twice (copies_of_jobs js) ≡ false
copies_once site h k [] all once = refl
copies_once site h k (j ∷ js) all once =
    let parts : (has_job j js ≡ false) × (names_twice js ≡ false) = not_either (has_job j js) (names_twice js) once in
    rw (none (λ i there. among (λ i. is_lost site h k i ≡ true) js all.1 i there) all.0 parts.0) (copies_once site h k js all.1 parts.1)
  where
    none : ((i : Job) → has_job i js ≡ true → is_lost site h k i ≡ true) → is_lost site h k j ≡ true → has_job j js ≡ false → has_job (job_of 0 j.file j.copy) (copies_of_jobs js) ≡ false
    none lost here apart =
        elim (bool_cases (has_job (job_of 0 j.file j.copy) (copies_of_jobs js))) [
          | inr miss ↦ miss
          | inl hit ↦
              (let copy : has_copy j.file j.copy js ≡ true = (and_parts (0 == 0) _ (sym (copies_members (job_of 0 j.file j.copy) js) ∙ hit)).1 in
              let i = copy_named j.file j.copy js copy in
              let mine = and_parts (nat_le 1 j.copy) _ here in
              let its = and_parts (nat_le 1 i.0.copy) _ (lost i.0 i.1) in
              let d = from_one j.copy (leb-true 1 j.copy mine.0) in
              let a : is_number j.birth (archive_birth site h j.file (suc d.0)) ≡ true = live_archive site h j j.file d.0 refl d.1 (and_parts (is_live_job site h j) _ mine.1).0 in
              let b : is_number i.0.birth (archive_birth site h j.file (suc d.0)) ≡ true = live_archive site h i.0 j.file d.0 i.2 (i.3 ∙ d.1) (and_parts (is_live_job site h i.0) _ its.1).0 in
              let same : i.0 ≡ j = one_job i.0.birth i.0.file i.0.copy j.birth j.file j.copy (one_number i.0.birth j.birth (archive_birth site h j.file (suc d.0)) b a) i.2 i.3 in
              let bad : has_job j js ≡ true = subst (λ (x : Job). has_job x js ≡ true) same i.1 in
              absurd (cc))
        ]

-- of the jobs that an ask charges, those whose copies fail
abbrev pub lost_jobs : Site → History → Ask → List Job → List Job
lost_jobs site h k charged = filter (is_lost site h k) charged

lost_copy : (site : Site) (h : History) (k : Ask) (charged : List Job) (f c : ℕ) → has_copy f c (lost_jobs site h k charged) ≡ true → (j : Job) × (is_lost site h k j ≡ true) × (j.file ≡ f) × (j.copy ≡ c)
lost_copy site h k charged f c there =
    (let j = copy_named f c (lost_jobs site h k charged) there in
    (j.0, (and_parts (has_job j.0 charged) _ (sym (has_filter (is_lost site h k) j.0 charged) ∙ j.1)).1, j.2, j.3))

-- a copy of a job that is lost has a live archive job
lost_live : (site : Site) (h : History) (k : Ask) (charged : List Job) (f c : ℕ) → has_copy f (suc c) (lost_jobs site h k charged) ≡ true → is_some (archive_birth site h f (suc c)) ≡ true
lost_live site h k charged f c there =
    (let j = lost_copy site h k charged f (suc c) there in
    some_of j.0.birth (archive_birth site h f (suc c)) (live_archive site h j.0 f c j.2 j.3 (and_parts (is_live_job site h j.0) _ (and_parts (nat_le 1 j.0.copy) _ j.1).1).0))
  where
    some_of : (b : ℕ) (o : Option ℕ) → is_number b o ≡ true → is_some o ≡ true
    some_of b None x = absurd (cc)
    some_of b (Some n) x = refl

lost_zero : (site : Site) (h : History) (k : Ask) (charged : List Job) (f : ℕ) → has_copy f 0 (lost_jobs site h k charged) ≡ false
lost_zero site h k charged f =
    elim (bool_cases (has_copy f 0 (lost_jobs site h k charged))) [
      | inr miss ↦ miss
      | inl hit ↦ (let j = lost_copy site h k charged f 0 hit in let low : 1 ≤ j.0.copy = leb-true 1 j.0.copy (and_parts (nat_le 1 j.0.copy) _ j.1).0 in absurd (omega (arith, j.3)))
    ]

-- without a live archive job no copy is lost
lost_none : (site : Site) (h : History) (k : Ask) (charged : List Job) (f c : ℕ) → is_some (archive_birth site h f (suc c)) ≡ false → has_copy f (suc c) (lost_jobs site h k charged) ≡ false
lost_none site h k charged f c dead =
    elim (bool_cases (has_copy f (suc c) (lost_jobs site h k charged))) [ inr miss ↦ miss | inl hit ↦ (let on : is_some (archive_birth site h f (suc c)) ≡ true = lost_live site h k charged f c hit in absurd (cc)) ]

not_above : (site : Site) (h : History) (f c : ℕ) → IsLegal site h → length h < f → is_some (archive_birth site h f (suc c)) ≡ false
not_above site h f c legal high =
    elim (bool_cases (is_some (archive_birth site h f (suc c)))) [ inr miss ↦ miss | inl hit ↦ (let low : f ≤ length h = (archive_range site h legal f (suc c) hit).1 in absurd (omega arith)) ]

not_dead : (site : Site) (h : History) (f c : ℕ) → IsLegal site h → is_live h f ≡ false → is_some (archive_birth site h f (suc c)) ≡ false
not_dead site h f c legal dead =
    elim (bool_cases (is_some (archive_birth site h f (suc c)))) [
      | inr miss ↦ miss
      | inl hit ↦ (let here : is_live h f ≡ true = (resident_parts h f (archive_resident site h legal f c hit)).0 in absurd (cc))
    ]

has_job_left : (site : Site) (h : History) (f c : ℕ) → is_some (archive_birth site h f (suc c)) ≡ true → has_failed site h f (suc c) ≡ false
has_job_left site h f c on = by (is_live h f) (not (was_flushed h f (suc c))) (archive_birth site h f (suc c)) (nat_le 1 (suc c) && nat_lt (suc c) (1 + copies_of_file site h f)) on
  where
    by : (a b : Bool) (o : Option ℕ) (r : Bool) → is_some o ≡ true → (a && ((b && is_none o) && r)) ≡ false
    by true true None r x = absurd (cc)
    by true true (Some n) r x = refl
    by true false o r x = refl
    by false b o r x = refl

-- the copy of a live archive job is lost where the charge is its last and it was never flushed
lost_is : (site : Site) (h : History) (m : ℕ) (fault : Fault) (charged returned : Listed Job) (b f c : ℕ) → is_live h f ≡ true → archive_birth site h f (suc c) ≡ Some b
    → has_copy f (suc c) (lost_jobs site h (ask.Failed m fault charged returned) charged.items) ≡ (is_last_charge site h (ask.Failed m fault charged returned) (job_of b f (suc c)) && not (was_flushed h f (suc c)))
lost_is site h m fault charged returned b f c live on =
    same_bool (has_copy f (suc c) (lost_jobs site h (ask.Failed m fault charged returned) charged.items)) (is_last_charge site h (ask.Failed m fault charged returned) (job_of b f (suc c)) && not (was_flushed h f (suc c))) (λ e. found e) (λ e. there e)
  where
    place : is_none (place_of h f (suc c)) ≡ not (was_flushed h f (suc c))
    place = rw live (by (last_flushed h f (suc c)))
      where
        by : (o : Option Place) → is_none o ≡ not (is_some o)
        by None = refl
        by (Some p) = refl

    found : has_copy f (suc c) (lost_jobs site h (ask.Failed m fault charged returned) charged.items) ≡ true → (is_last_charge site h (ask.Failed m fault charged returned) (job_of b f (suc c)) && not (was_flushed h f (suc c))) ≡ true
    found e =
        (let j = lost_copy site h (ask.Failed m fault charged returned) charged.items f (suc c) e in
        let p = and_parts (nat_le 1 j.0.copy) _ j.1 in
        let q = and_parts (is_live_job site h j.0) _ p.1 in
        let r = and_parts (is_last_charge site h (ask.Failed m fault charged returned) j.0) _ q.1 in
        let birth : j.0.birth ≡ b = eqb-true j.0.birth b (subst (λ (o : Option ℕ). is_number j.0.birth o ≡ true) on (live_archive site h j.0 f c j.2 j.3 q.0)) in
        let same : j.0 ≡ job_of b f (suc c) = one_job j.0.birth j.0.file j.0.copy b f (suc c) birth j.2 j.3 in
        let none : is_none (place_of h f (suc c)) ≡ true = subst (λ (x : Job). is_none (place_of h x.file x.copy) ≡ true) same r.1 in
        and_from _ _ (subst (λ (x : Job). is_last_charge site h (ask.Failed m fault charged returned) x ≡ true) same r.0) (sym place ∙ none))

    there : (is_last_charge site h (ask.Failed m fault charged returned) (job_of b f (suc c)) && not (was_flushed h f (suc c))) ≡ true → has_copy f (suc c) (lost_jobs site h (ask.Failed m fault charged returned) charged.items) ≡ true
    there e =
        (let p = and_parts (is_last_charge site h (ask.Failed m fault charged returned) (job_of b f (suc c))) _ e in
        let q = and_parts (has_job (job_of b f (suc c)) charged.items) _ p.0 in
        let alive : is_live_job site h (job_of b f (suc c)) ≡ true = ap (is_number b) on ∙ eq-eqb b b refl in
        let lost : is_lost site h (ask.Failed m fault charged returned) (job_of b f (suc c)) ≡ true = and_from _ _ (le-leb 1 (suc c) (omega arith)) (and_from _ _ alive (and_from _ _ p.0 (place ∙ p.1))) in
        has_job_copy (job_of b f (suc c)) _ (has_filter (is_lost site h (ask.Failed m fault charged returned)) (job_of b f (suc c)) charged.items ∙ and_from _ _ q.0 lost))

failed_point : (site : Site) (h : History) (e : Entry) (m : ℕ) (fault : Fault) (charged returned : Listed Job) (f c : ℕ) → IsLegal site (e ∷ h) → e.ask ≡ ask.Failed m fault charged returned
    → has_failed site (e ∷ h) f c ≡ (has_copy f c (lost_jobs site h (ask.Failed m fault charged returned) charged.items) || has_failed site h f c)
failed_point site h e m fault charged returned f zero legal ek =
    zero_no site (e ∷ h) f ∙ sym (ap (λ (b : Bool). b || has_failed site h f 0) (lost_zero site h (ask.Failed m fault charged returned) charged.items f) ∙ zero_no site h f)
failed_point site h e m fault charged returned f (suc c) legal ek =
    elim (cases_lt (length h) f) [
      | inl high ↦
          (let both = high_failed site h e f (suc c) legal.0 high in
          both.0 ∙ sym (ap (λ (b : Bool). b || has_failed site h f (suc c)) (lost_none site h (ask.Failed m fault charged returned) charged.items f c (not_above site h f c legal.0 high)) ∙ both.1))
      | inr low ↦
          low_failed site h e f (suc c) (is_live h f) (not (was_flushed h f (suc c)) && is_none (archive_after site h e f (suc c) (archive_birth site h f (suc c)))) low (is_live_same e h f low (ap may_change_files ek))
          (ap (λ (x : Option Place). not (is_some x) && is_none (archive_birth site (e ∷ h) f (suc c))) (flushed_same e h f (suc c) (ap may_flush ek)))
          ∙ by_live (is_live h f) refl
    ]
  where
    range : Bool
    range = nat_le 1 (suc c) && nat_lt (suc c) (1 + copies_of_file site h f)

    lost : Bool
    lost = has_copy f (suc c) (lost_jobs site h (ask.Failed m fault charged returned) charged.items)

    inside : (b : ℕ) → archive_birth site h f (suc c) ≡ Some b → range ≡ true
    inside b on = (let fits : suc c ≤ copies_of_file site h f = (archive_range site h legal.0 f (suc c) (ap is_some on)).2 in and_from _ _ (le-leb 1 (suc c) (omega arith)) (lt-ltb (suc c) (1 + copies_of_file site h f) (omega arith)))

    split : (t u r : Bool) → r ≡ true → (true && ((not u && is_none {T = ℕ} (if t then None else Some 0)) && r)) ≡ ((t && not u) || (true && ((not u && false) && r)))
    split true true r x = refl
    split true false r x = rw x refl
    split false true r x = refl
    split false false r x = refl

    none_if : (t : Bool) (b : ℕ) → is_none (if t then None else Some b) ≡ is_none {T = ℕ} (if t then None else Some 0)
    none_if true b = refl
    none_if false b = refl

    after_by : Option ℕ → Option ℕ
    after_by None = None
    after_by (Some b) = if is_last_charge site h (ask.Failed m fault charged returned) (job_of b f (suc c)) then None else Some b

    after : (o : Option ℕ) → archive_after site h e f (suc c) o ≡ after_by o
    after None = rw ek refl
    after (Some b) = rw ek refl

    by_job : (o : Option ℕ) → archive_birth site h f (suc c) ≡ o → is_live h f ≡ true → (true && ((not (was_flushed h f (suc c)) && is_none (archive_after site h e f (suc c) o)) && range)) ≡ (lost || (true && ((not (was_flushed h f (suc c)) && is_none o) && range)))
    by_job None on live =
        ap (λ (x : Option ℕ). true && ((not (was_flushed h f (suc c)) && is_none x) && range)) (after None)
        ∙ sym (ap (λ (b : Bool). b || (true && ((not (was_flushed h f (suc c)) && true) && range))) (lost_none site h (ask.Failed m fault charged returned) charged.items f c (ap is_some on)))
    by_job (Some b) on live =
        ap (λ (x : Option ℕ). true && ((not (was_flushed h f (suc c)) && is_none x) && range)) (after (Some b))
        ∙ ap (λ (x : Bool). true && ((not (was_flushed h f (suc c)) && x) && range)) (none_if (is_last_charge site h (ask.Failed m fault charged returned) (job_of b f (suc c))) b)
        ∙ split (is_last_charge site h (ask.Failed m fault charged returned) (job_of b f (suc c))) (was_flushed h f (suc c)) range (inside b on)
        ∙ ap (λ (x : Bool). x || (true && ((not (was_flushed h f (suc c)) && false) && range))) (sym (lost_is site h m fault charged returned b f c live on))

    by_live : (live : Bool) → is_live h f ≡ live → (live && ((not (was_flushed h f (suc c)) && is_none (archive_after site h e f (suc c) (archive_birth site h f (suc c)))) && range)) ≡ (lost || (live && ((not (was_flushed h f (suc c)) && is_none (archive_birth site h f (suc c))) && range)))
    by_live true live = by_job (archive_birth site h f (suc c)) refl live
    by_live false dead = sym (ap (λ (b : Bool). b || false) (lost_none site h (ask.Failed m fault charged returned) charged.items f c (not_dead site h f c legal.0 dead)))

twice_first : (xs ys : List Job) → names_twice (xs ++ ys) ≡ false → names_twice xs ≡ false
twice_first [] ys d = refl
twice_first (x ∷ xs) ys d =
    (let parts : (has_job x (xs ++ ys) ≡ false) × (names_twice (xs ++ ys) ≡ false) = not_either (has_job x (xs ++ ys)) (names_twice (xs ++ ys)) d in rw (has_pair x xs ys parts.0) (twice_first xs ys parts.1))

pub failed_list : (site : Site) (h : History) (e : Entry) (m : ℕ) (fault : Fault) (charged returned : Listed Job) → IsLegal site (e ∷ h) → e.ask ≡ ask.Failed m fault charged returned
    → failed_jobs site (e ∷ h) ≡ added_copies (lost_jobs site h (ask.Failed m fault charged returned) charged.items) (failed_jobs site h)
failed_list site h e m fault charged returned legal ek =
    list_grows site h e (lost_jobs site h (ask.Failed m fault charged returned) charged.items)
    (copies_once site h (ask.Failed m fault charged returned) (lost_jobs site h (ask.Failed m fault charged returned) charged.items) (all_pass (is_lost site h (ask.Failed m fault charged returned)) charged.items)
    (twice_filter (is_lost site h (ask.Failed m fault charged returned)) charged.items (twice_first charged.items returned.items (known_once h m (charged.items ++ returned.items) known))))
    (λ f c there. apart f c there)
    (λ f c. failed_point site h e m fault charged returned f c legal ek)
  where
    known : is_known h m (charged.items ++ returned.items) ≡ true
    known = not_unknown (is_known h m (charged.items ++ returned.items)) answer.Done e.answer (legal.1.answered ∙ ap (answer_of site h e.at) ek) legal.1.accepted

    apart : (f c : ℕ) → has_copy f c (lost_jobs site h (ask.Failed m fault charged returned) charged.items) ≡ true → has_failed site h f c ≡ false
    apart f zero there = zero_no site h f
    apart f (suc c) there = has_job_left site h f c (lost_live site h (ask.Failed m fault charged returned) charged.items f c there)
