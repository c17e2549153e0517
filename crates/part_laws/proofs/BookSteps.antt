-- How each ask moves a job book.
use Rattle.std.proofs.Common.{◌≡◌, ◌∙◌, ℕ, zero, suc, ◌+◌, ◌≤◌, inl, inr, List, [], ◌∷◌, ◌++◌, Bool, true, false, ◌&&◌, ◌||◌, refl, sym, ap, subst, arith, length}
use Rattle.std.specs.Prelude.{Option, Some, None, is_none, is_some, if◌then◌else◌, ◌==◌, filter, bytes_eq, nat_le}
use Rattle.std.proofs.lemmas.Bool.{and_parts, eqb-true, eq-eqb, cases_lt}
use Rattle.cta_site.specs.declared.site.Site.{Site}
use Rattle.cta_site.specs.Listed.{Listed}
use Rattle.cta_site.specs.Lookups.{copies_of}
use Rattle.blob.specs.declared.sum.Sum256.{Sum256}
use Rattle.cta_model.specs.declared.entries.Entry.{Entry}
use Rattle.cta_model.specs.declared.asks.Ask.{Ask}
use Rattle.cta_model.specs.declared.answers.Answer.{Answer}
use Rattle.cta_model.specs.declared.asks.Who.{Who}
use Rattle.cta_model.specs.declared.asks.Item.{Item}
use Rattle.cta_model.specs.declared.asks.Job.{Job}
use Rattle.cta_model.specs.declared.states.Charge.{Charge}
use Rattle.cta_model.specs.History.{History, is_number}
use Rattle.cta_model.specs.Files.{live_file, path_of, copies_of_file}
use Rattle.cta_model.specs.Mounts.{claimer_of, has_job, item_jobs, same_job, has_copy, job_of}
use Rattle.cta_model.specs.Recalls.{Recall, live_recall, recall_after, lives_unless}
use Rattle.cta_model.specs.Jobs.{archive_birth, archive_after, live_birth, is_live_job}
use Rattle.cta_model.specs.Legal.{IsLegal}
use Rattle.cta_laws.proofs.Tests.{bool_cases, or_left, or_right}
use Rattle.cta_laws.proofs.Claims.{AllOf, all_append}
use Rattle.cta_laws.proofs.OnceLaw.{birth_in, same_job_eq}
use Rattle.cta_laws.proofs.RangeLaw.{archive_range}
use Rattle.cta_model.specs.declared.asks.Ask.TheVariants as ask
use Rattle.cta_model.specs.declared.answers.Answer.TheVariants as answer
use Rattle.part_laws.proofs.LastSteps.{TellLive}
use Rattle.part_model.specs.JobBook.{Book, TellSame, bear_jobs, charge_jobs, claim_jobs, end_jobs, give_back_jobs, job_if}
use Rattle.cta_laws.proofs.Frames.{archive_same, charges_same, claimer_same, recall_same}
use Rattle.cta_laws.specs.Changes.{may_change_claims, may_change_jobs, may_charge}
use Rattle.part_laws.specs.QueueBooks.{archive_jobs, book_of, jobs_of_file}
use Rattle.cta_laws.proofs.Claimers.{claimer_step}
use Rattle.cta_laws.specs.Claims.{claimer_after}
use Rattle.part_laws.specs.Queued.{put_jobs}
use Rattle.cta_laws.proofs.Bools.{same_bool}
use Rattle.part_laws.proofs.PutSteps.{put_archive, put_recall}
use Rattle.part_laws.proofs.EndSteps.{same_file}

-- ---- books that tell the same

pub tell_chain : (a b c : Book) → TellSame a b → TellSame b c → TellSame a c
tell_chain a b c x y = record { recall = λ f. x.recall f ∙ y.recall f; archive = λ f k. x.archive f k ∙ y.archive f k; claimer = λ j. x.claimer j ∙ y.claimer j; charges = λ j. x.charges j ∙ y.charges j; last_birth = λ f k. x.last_birth f k ∙ y.last_birth f k; named = λ j. x.named j ∙ y.named j }

pub claim_same : (js : List Job) (m : ℕ) (a b : Book) → TellSame a b → TellSame (claim_jobs js m a) (claim_jobs js m b)
claim_same js m a b x = record { recall = x.recall; archive = x.archive; claimer = λ j. ap (λ (o : Option ℕ). if has_job j js then Some m else o) (x.claimer j); charges = x.charges; last_birth = x.last_birth; named = λ j. ap (λ (t : Bool). has_job j js || t) (x.named j) }

pub give_back_same : (js : List Job) (a b : Book) → TellSame a b → TellSame (give_back_jobs js a) (give_back_jobs js b)
give_back_same js a b x = record { recall = x.recall; archive = x.archive; claimer = λ j. ap (λ (o : Option ℕ). if has_job j js then None else o) (x.claimer j); charges = x.charges; last_birth = x.last_birth; named = x.named }

pub end_same : (js : List Job) (a b : Book) → TellSame a b → TellSame (end_jobs js a) (end_jobs js b)
end_same js a b x = record { recall = λ f. ap (λ (o : Option Recall). if has_copy f 0 js then None else o) (x.recall f); archive = λ f c. ap (λ (o : Option ℕ). if has_copy f (suc c) js then None else o) (x.archive f c); claimer = x.claimer; charges = x.charges; last_birth = x.last_birth; named = x.named }

pub bear_same : (js : List Job) (n : ℕ) (a b : Book) → TellSame a b → TellSame (bear_jobs js n a) (bear_jobs js n b)
bear_same js n a b x = record { recall = λ f. ap (λ (o : Option Recall). if has_copy f 0 js then Some (record { birth = n; waiting = n ∷ [] }) else o) (x.recall f); archive = λ f c. ap (λ (o : Option ℕ). if has_copy f (suc c) js then Some n else o) (x.archive f c); claimer = x.claimer; charges = x.charges; last_birth = λ f c. ap (λ (o : Option ℕ). if has_copy f c js then Some n else o) (x.last_birth f c); named = x.named }

pub charge_same : (js : List Job) (charge : Charge) (a b : Book) → TellSame a b → TellSame (charge_jobs js charge a) (charge_jobs js charge b)
charge_same js charge a b x = record { recall = x.recall; archive = x.archive; claimer = x.claimer; charges = λ j. ap (λ (cs : List Charge). if has_job j js then cs ++ charge ∷ [] else cs) (x.charges j); last_birth = x.last_birth; named = x.named }

-- ---- Next, End, DriveUp, DriveDown, Release, Reclaim

pub stays_live : (site : Site) (h : History) (e : Entry) → IsLegal site (e ∷ h) → may_change_jobs e.ask ≡ false → may_change_claims e.ask ≡ false → may_charge e.ask ≡ false → TellLive (book_of site h) (book_of site (e ∷ h))
stays_live site h e legal jobs claims charge = record {
  recall = λ f. sym (recall_same site h e f jobs);
  archive = λ f c. sym (archive_same site h e f (suc c) jobs);
  claimer = λ j. sym (claimer_same site h e j legal claims);
  charges = λ j. sym (charges_same e h j charge);
}

-- ---- Claim

pub claim_live : (site : Site) (h : History) (e : Entry) (m : ℕ) (items : Listed Item) (evicted : Listed ℕ) → IsLegal site (e ∷ h) → e.ask ≡ ask.Claim m → e.answer ≡ answer.Batch items evicted
    → TellLive (claim_jobs (item_jobs items.items) m (book_of site h)) (book_of site (e ∷ h))
claim_live site h e m items evicted legal ek ea = record {
  recall = λ f. sym (recall_same site h e f (ap may_change_jobs ek));
  archive = λ f c. sym (archive_same site h e f (suc c) (ap may_change_jobs ek));
  claimer = λ j. sym (claimer_step site h e legal j ∙ ap (λ (k : Ask). claimer_after k e.answer j (claimer_of h j)) ek ∙ ap (λ (a : Answer). claimer_after (ask.Claim m) a j (claimer_of h j)) ea);
  charges = λ j. sym (charges_same e h j (ap may_charge ek));
}

-- ---- Put

pub has_copy_both : (f c : ℕ) (xs ys : List Job) → has_copy f c (xs ++ ys) ≡ (has_copy f c xs || has_copy f c ys)
has_copy_both f c [] ys = refl
has_copy_both f c (x ∷ xs) ys = rw (has_copy_both f c xs ys) (regroup (x.file == f && x.copy == c) (has_copy f c xs) (has_copy f c ys))
  where
    regroup : (a b c : Bool) → (a || (b || c)) ≡ ((a || b) || c)
    regroup true b c = refl
    regroup false b c = refl

put_copies : (n f c k : ℕ) → has_copy f c (put_jobs n k) ≡ ((n == f) && (nat_le 1 c && nat_le c k))
put_copies n f c zero = same_bool false ((n == f) && (nat_le 1 c && nat_le c 0)) (λ e. absurd (cc)) (λ e. grind arith)
put_copies n f c (suc k) =
    has_copy_both f c (put_jobs n k) (job_of n n (suc k) ∷ []) ∙ ap (λ (b : Bool). b || ((n == f && suc k == c) || false)) (put_copies n f c k)
    ∙ same_bool (((n == f) && (nat_le 1 c && nat_le c k)) || ((n == f && suc k == c) || false)) ((n == f) && (nat_le 1 c && nat_le c (suc k))) (λ e. grind arith) (λ e. grind arith)

no_birth : (site : Site) (h : History) (f c : ℕ) → IsLegal site h → f ≡ length h + 1 → archive_birth site h f (suc c) ≡ None
no_birth site h f c legal is = by (archive_birth site h f (suc c)) refl
  where
    by : (o : Option ℕ) → archive_birth site h f (suc c) ≡ o → archive_birth site h f (suc c) ≡ None
    by None was = was
    by (Some b) was = (let high : f ≤ length h = (archive_range site h legal f (suc c) (ap is_some was)).1 in absurd (omega arith))

pub put_live : (site : Site) (h : History) (e : Entry) (who : Who) (path : List ℕ) (sum : Sum256) → IsLegal site (e ∷ h) → e.ask ≡ ask.Put who path sum
    → TellLive (bear_jobs (put_jobs (length h + 1) (copies_of site path)) (length h + 1) (book_of site h)) (book_of site (e ∷ h))
put_live site h e who path sum legal ek = record {
  recall = λ f. ap (λ (b : Bool). if b then Some (record { birth = length h + 1; waiting = (length h + 1) ∷ [] }) else live_recall site h f) (put_copies (length h + 1) f 0 (copies_of site path) ∙ none (length h + 1 == f)) ∙ sym (put_recall site h e who path sum f (live_recall site h f) ek);
  archive = λ f c. ap (λ (b : Bool). if b then Some (length h + 1) else archive_birth site h f (suc c)) (put_copies (length h + 1) f (suc c) (copies_of site path)) ∙ by f c (length h + 1 == f) refl ∙ sym (put_archive site h e who path sum f (suc c) (archive_birth site h f (suc c)) ek);
  claimer = λ j. sym (claimer_same site h e j legal (ap may_change_claims ek));
  charges = λ j. sym (charges_same e h j (ap may_charge ek));
}
  where
    none : (a : Bool) → (a && false) ≡ false
    none true = refl
    none false = refl

    by : (f c : ℕ) (t : Bool) → (length h + 1 == f) ≡ t → (if t && (nat_le 1 (suc c) && nat_le (suc c) (copies_of site path)) then Some (length h + 1) else archive_birth site h f (suc c)) ≡ (if is_none (archive_birth site h f (suc c)) && (t && (nat_le 1 (suc c) && nat_le (suc c) (copies_of site path))) then Some (length h + 1) else archive_birth site h f (suc c))
    by f c true is = rw (no_birth site h f c legal.0 (sym (eqb-true (length h + 1) f is))) refl
    by f c false is = rw (none (is_none (archive_birth site h f (suc c)))) refl

-- ---- jobs that end

pub either : {A : Type 0} → (b : Bool) (x : A) → (if b then x else x) ≡ x
either true x = refl
either false x = refl

-- of the jobs of a list, the live one of a copy is the one with the live birth
ends_look : (site : Site) (h : History) (f c b : ℕ) (js : List Job) → live_birth site h f c ≡ Some b → has_copy f c (filter (is_live_job site h) js) ≡ has_job (job_of b f c) js
ends_look site h f c b [] is = refl
ends_look site h f c b (j ∷ js) is =
    elim (bool_cases (same_job (job_of b f c) j)) [
      | inl hit ↦
          (let same : job_of b f c ≡ j = same_job_eq (job_of b f c) j hit in
          let live : is_live_job site h j ≡ true = subst (λ (k : Job). is_live_job site h k ≡ true) same (subst (λ (o : Option ℕ). is_number b o ≡ true) (sym is) (eq-eqb b b refl)) in
          let file : (j.file == f) ≡ true = eq-eqb j.file f (sym (ap (λ (k : Job). k.file) same)) in
          let copy : (j.copy == c) ≡ true = eq-eqb j.copy c (sym (ap (λ (k : Job). k.copy) same)) in
          rw (hit, live) (rw (file, copy) refl))
      | inr miss ↦
          rw miss (elim (bool_cases (is_live_job site h j)) [
            | inr dead ↦ rw dead (ends_look site h f c b js is)
            | inl live ↦ rw live (rw (other miss live) (ends_look site h f c b js is))
          ])
    ]
  where
    made : (x y : ℕ) → {p q : ℕ} → x ≡ y → p ≡ q → x ≡ y
    made x y s t = s

    other : same_job (job_of b f c) j ≡ false → is_live_job site h j ≡ true → (j.file == f && j.copy == c) ≡ false
    other miss live =
        elim (bool_cases (j.file == f && j.copy == c)) [
          | inr d ↦ d
          | inl hit ↦
              (let parts : (j.file == f ≡ true) × (j.copy == c ≡ true) = and_parts _ _ hit in
              let file : j.file ≡ f = eqb-true j.file f parts.0 in
              let copy : j.copy ≡ c = eqb-true j.copy c parts.1 in
              let here : is_number j.birth (live_birth site h f c) ≡ true = subst (λ (n : ℕ). is_number j.birth (live_birth site h n c) ≡ true) file (subst (λ (n : ℕ). is_number j.birth (live_birth site h j.file n) ≡ true) copy live) in
              let birth : j.birth ≡ b = eqb-true j.birth b (subst (λ (o : Option ℕ). is_number j.birth o ≡ true) is here) in
              let bad : same_job (job_of b f c) j ≡ true = grind arith in
              absurd (cc))
        ]

-- what a recall and an archive job become where those of a list end
abbrev pub recall_unless : ℕ → List Job → Option Recall → Option Recall
recall_unless f js None = None
recall_unless f js (Some r) = lives_unless (has_job (job_of r.birth f 0) js) r

abbrev pub archive_unless : ℕ → ℕ → List Job → Option ℕ → Option ℕ
archive_unless f c js None = None
archive_unless f c js (Some b) = if has_job (job_of b f c) js then None else Some b

pub ended_recall : (site : Site) (h : History) (f : ℕ) (js : List Job) (o : Option Recall) → live_recall site h f ≡ o → (if has_copy f 0 (filter (is_live_job site h) js) then None else o) ≡ recall_unless f js o
ended_recall site h f js None is = either {A = Option Recall} (has_copy f 0 (filter (is_live_job site h) js)) None
ended_recall site h f js (Some r) is = ap (λ (b : Bool). if b then None else Some r) (ends_look site h f 0 r.birth js (ap birth_in is)) ∙ by (has_job (job_of r.birth f 0) js)
  where
    by : (b : Bool) → (if b then None else Some r) ≡ lives_unless b r
    by true = refl
    by false = refl

pub ended_archive : (site : Site) (h : History) (f c : ℕ) (js : List Job) (o : Option ℕ) → archive_birth site h f (suc c) ≡ o → (if has_copy f (suc c) (filter (is_live_job site h) js) then None else o) ≡ archive_unless f (suc c) js o
ended_archive site h f c js None is = either {A = Option ℕ} (has_copy f (suc c) (filter (is_live_job site h) js)) None
ended_archive site h f c js (Some b) is = ap (λ (t : Bool). if t then None else Some b) (ends_look site h f (suc c) b js is)

-- ---- Delete

abbrev pub OfFile : ℕ → Job → Type 0
OfFile g j = j.file ≡ g

pub if_of_file : (g c : ℕ) (o : Option ℕ) → AllOf (OfFile g) (job_if g c o)
if_of_file g c None = tt
if_of_file g c (Some b) = (refl, tt)

pub archive_of_file : (site : Site) (h : History) (g n : ℕ) → AllOf (OfFile g) (archive_jobs site h g n)
archive_of_file site h g zero = tt
archive_of_file site h g (suc c) = all_append (OfFile g) (archive_jobs site h g c) _ (archive_of_file site h g c) (if_of_file g (suc c) (archive_birth site h g (suc c)))

other_file : (f c g : ℕ) (js : List Job) → AllOf (OfFile g) js → (f == g) ≡ false → has_copy f c js ≡ false
other_file f c g [] all d = refl
other_file f c g (j ∷ js) all d = (let file : j.file ≡ g = all.0 in let miss : (j.file == f) ≡ false = grind arith in rw miss (other_file f c g js all.1 d))

has_if : (f c b : ℕ) (o : Option ℕ) → o ≡ Some b → has_copy f c (job_if f c o) ≡ true
has_if f c b None is = absurd (cc)
has_if f c b (Some n) is = or_left (f == f && c == c) false (grind arith)

has_archive : (site : Site) (h : History) (f c b n : ℕ) → suc c ≤ n → archive_birth site h f (suc c) ≡ Some b → has_copy f (suc c) (archive_jobs site h f n) ≡ true
has_archive site h f c b zero low is = absurd (omega arith)
has_archive site h f c b (suc n) low is =
    has_copy_both f (suc c) (archive_jobs site h f n) (job_if f (suc n) (archive_birth site h f (suc n)))
    ∙ elim (cases_lt (suc c) (suc n)) [
      | inl less ↦ or_left (has_copy f (suc c) (archive_jobs site h f n)) _ (has_archive site h f c b n (omega arith) is)
      | inr more ↦ (let same : c ≡ n = omega arith in or_right (has_copy f (suc c) (archive_jobs site h f n)) (has_copy f (suc c) (job_if f (suc n) (archive_birth site h f (suc n)))) (subst (λ (k : ℕ). has_copy f (suc c) (job_if f (suc k) (archive_birth site h f (suc k))) ≡ true) same (has_if f (suc c) b (archive_birth site h f (suc c)) is)))
    ]

-- a Delete ends the live jobs of the file
pub delete_live : (site : Site) (h : History) (e : Entry) (who : Who) (path : List ℕ) (g : ℕ) → IsLegal site (e ∷ h) → e.ask ≡ ask.Delete who path → live_file h path ≡ Some g
    → TellLive (end_jobs (jobs_of_file site h g) (book_of site h)) (book_of site (e ∷ h))
delete_live site h e who path g legal ek is = record {
  recall = λ f. recall f (live_recall site h f) refl;
  archive = λ f c. archive f c (archive_birth site h f (suc c)) refl;
  claimer = λ j. sym (claimer_same site h e j legal (ap may_change_claims ek));
  charges = λ j. sym (charges_same e h j (ap may_charge ek));
}
  where
    all : AllOf (OfFile g) (jobs_of_file site h g)
    all = all_append (OfFile g) (job_if g 0 (live_birth site h g 0)) (archive_jobs site h g (copies_of_file site h g)) (if_of_file g 0 (live_birth site h g 0)) (archive_of_file site h g (copies_of_file site h g))

    goes : (b : Bool) (r : Recall) → (if b then None else Some r) ≡ lives_unless b r
    goes true r = refl
    goes false r = refl

    recall : (f : ℕ) (o : Option Recall) → live_recall site h f ≡ o → (if has_copy f 0 (jobs_of_file site h g) then None else o) ≡ recall_after site h e f o
    recall f None was = either {A = Option Recall} (has_copy f 0 (jobs_of_file site h g)) None ∙ sym (rw ek refl)
    recall f (Some r) was =
        (let live : is_live_job site h (job_of r.birth f 0) ≡ true = subst (λ (o : Option Recall). is_number r.birth (birth_in o) ≡ true) (sym was) (eq-eqb r.birth r.birth refl) in
        let named : bytes_eq path (path_of h f) ≡ (f == g) = same_file site h path g (job_of r.birth f 0) legal.0 is live in
        let has : has_copy f 0 (jobs_of_file site h g) ≡ (f == g) = by_file f r was (f == g) refl in
        goes (has_copy f 0 (jobs_of_file site h g)) r ∙ ap (λ (b : Bool). lives_unless b r) (has ∙ sym named) ∙ sym (rw ek refl))
      where
        by_file : (f : ℕ) (r : Recall) → live_recall site h f ≡ Some r → (t : Bool) → (f == g) ≡ t → has_copy f 0 (jobs_of_file site h g) ≡ t
        by_file f r was true hit = has_copy_both f 0 (job_if g 0 (live_birth site h g 0)) (archive_jobs site h g (copies_of_file site h g)) ∙ or_left _ _ (subst (λ (n : ℕ). has_copy f 0 (job_if n 0 (live_birth site h n 0)) ≡ true) (eqb-true f g hit) (has_if f 0 r.birth (live_birth site h f 0) (ap birth_in was)))
        by_file f r was false miss = other_file f 0 g (jobs_of_file site h g) all miss

    archive : (f c : ℕ) (o : Option ℕ) → archive_birth site h f (suc c) ≡ o → (if has_copy f (suc c) (jobs_of_file site h g) then None else o) ≡ archive_after site h e f (suc c) o
    archive f c None was = either {A = Option ℕ} (has_copy f (suc c) (jobs_of_file site h g)) None ∙ sym (rw ek refl)
    archive f c (Some b) was =
        (let live : is_live_job site h (job_of b f (suc c)) ≡ true = subst (λ (o : Option ℕ). is_number b o ≡ true) (sym was) (eq-eqb b b refl) in
        let named : bytes_eq path (path_of h f) ≡ (f == g) = same_file site h path g (job_of b f (suc c)) legal.0 is live in
        let range : suc c ≤ copies_of_file site h f = (archive_range site h legal.0 f (suc c) (ap is_some was)).2 in
        let has : has_copy f (suc c) (jobs_of_file site h g) ≡ (f == g) = by_file f c b was range (f == g) refl in
        ap (λ (t : Bool). if t then None else Some b) (has ∙ sym named) ∙ sym (rw ek refl))
      where
        by_file : (f c b : ℕ) → archive_birth site h f (suc c) ≡ Some b → suc c ≤ copies_of_file site h f → (t : Bool) → (f == g) ≡ t → has_copy f (suc c) (jobs_of_file site h g) ≡ t
        by_file f c b was fits true hit =
            has_copy_both f (suc c) (job_if g 0 (live_birth site h g 0)) (archive_jobs site h g (copies_of_file site h g))
            ∙ or_right (has_copy f (suc c) (job_if g 0 (live_birth site h g 0))) (has_copy f (suc c) (archive_jobs site h g (copies_of_file site h g))) (subst (λ (n : ℕ). has_copy f (suc c) (archive_jobs site h n (copies_of_file site h n)) ≡ true) (eqb-true f g hit) (has_archive site h f c b (copies_of_file site h f) fits was))
        by_file f c b was fits false miss = other_file f (suc c) g (jobs_of_file site h g) all miss
