-- A live job is of a file of the history, and of a copy of the file's class.
use Rattle.std.proofs.Common.{◌≡◌, ℕ, zero, suc, ◌+◌, ◌≤◌, inl, inr, List, [], ◌∷◌, ◌++◌, Bool, true, false, ◌&&◌, refl, sym, ap, subst, arith, length, ◌∙◌}
use Rattle.std.specs.Prelude.{Option, Some, None, is_some, if◌then◌else◌, ◌==◌, nat_le, map, filter, zip}
use Rattle.std.specs.List.{list_any, range_with_len}
use Rattle.std.proofs.lemmas.Bool.{and_parts, eqb-true, eq-eqb, leb-true}
use Rattle.cta_site.specs.declared.site.Site.{Site}
use Rattle.cta_site.specs.Lookups.{copies_of}
use Rattle.cta_model.specs.declared.entries.Entry.{Entry}
use Rattle.cta_model.specs.declared.asks.Ask.{Ask}
use Rattle.cta_model.specs.declared.asks.Ask.TheVariants as ask
use Rattle.cta_model.specs.declared.asks.Fate.TheVariants as fate
use Rattle.cta_model.specs.declared.asks.Item.{Item}
use Rattle.cta_model.specs.declared.asks.Job.{Job}
use Rattle.cta_model.specs.declared.answers.Answer.{Answer}
use Rattle.cta_model.specs.declared.answers.Answer.TheVariants as answer
use Rattle.cta_model.specs.declared.states.Place.{Place}
use Rattle.cta_model.specs.History.{History, entry_of, moment_of, has_text, is_number}
use Rattle.cta_model.specs.Files.{live_file, path_of, path_in, entry_path, copies_of_file}
use Rattle.cta_model.specs.Mounts.{asked_mount, tape_of_mount, job_of, has_copy}
use Rattle.cta_model.specs.Tapes.{tape_items}
use Rattle.cta_model.specs.Places.{place_of, place_after, last_flushed, fseq_after, flushed_in, is_copy_of, is_done, is_at, live_items_on}
use Rattle.cta_model.specs.Buffer.{is_resident}
use Rattle.cta_model.specs.Recalls.{Recall, live_recall}
use Rattle.cta_model.specs.RepackItems.{items_in, items_named, waiting_for, repack_items}
use Rattle.cta_model.specs.Jobs.{archive_birth, archive_after, bears_archive, live_birth, is_live_job}
use Rattle.cta_model.specs.Answers.{fate_of, is_failed, retried_file, retried_jobs}
use Rattle.cta_model.specs.Legal.{IsLegal}
use Rattle.cta_laws.proofs.Tests.{bool_cases, or_cases}
use Rattle.cta_laws.proofs.Claims.{AllOf, all_append, all_mono, all_pass}
use Rattle.cta_laws.proofs.Ranges.{all_map}
use Rattle.cta_laws.proofs.Accepted.{answer_is}
use Rattle.cta_laws.specs.Asks.{AnswerIs}
use Rattle.cta_laws.proofs.FlushedLaw.{flushed_done}
use Rattle.cta_laws.proofs.OnceLaw.{birth_in}
use Rattle.cta_laws.proofs.PlaceLaw.{named_within, path_older, live_place, place_cases}
use Rattle.cta_laws.proofs.ResidentLaw.{recall_live}

-- the job is of a file of the history, and of a copy of the file's class, or its recall
abbrev pub InRange : Site → History → Job → Type 0
InRange site h j = (1 ≤ j.file) × (j.file ≤ length h) × (j.copy ≤ copies_of_file site h j.file)

pub range_older : (site : Site) (e : Entry) (h : History) (j : Job) → InRange site h j → InRange site (e ∷ h) j
range_older site e h j r =
    let low : j.file ≤ length h = r.1 in
    (r.0, omega arith, subst (λ (p : List ℕ). j.copy ≤ copies_of site p) (sym (path_older e h j.file low)) r.2)

pub named_range : (h : History) (p : List ℕ) (f : ℕ) → live_file h p ≡ Some f → (1 ≤ f) × (f ≤ length h)
named_range h p f is = named_within h f p (subst (λ (o : Option ℕ). is_number f o ≡ true) (sym is) (eq-eqb f f refl))

-- ---- the jobs of a Retry

pub failed_range : (site : Site) (h : History) (f a n : ℕ) → 1 ≤ f → f ≤ length h → a + n ≤ copies_of_file site h f + 1 → AllOf (InRange site h) (map (job_of (length h + 1) f) (filter (is_failed site h f) (range_with_len a n)))
failed_range site h f a zero low high fits = tt
failed_range site h f a (suc n) low high fits =
    elim (is_failed site h f a) as (λ b. AllOf (InRange site h) (map (job_of (length h + 1) f) (if b then a ∷ filter (is_failed site h f) (range_with_len (a + 1) n) else filter (is_failed site h f) (range_with_len (a + 1) n))))
    [ true ↦ ((low, high, omega arith), failed_range site h f (a + 1) n low high (omega arith)) | false ↦ failed_range site h f (a + 1) n low high (omega arith) ]

pub file_range : (site : Site) (h : History) (o : Option ℕ) → ((f : ℕ) → o ≡ Some f → (1 ≤ f) × (f ≤ length h)) → AllOf (InRange site h) (retried_file site h o)
file_range site h None within = tt
file_range site h (Some f) within = (let w : (1 ≤ f) × (f ≤ length h) = within f refl in failed_range site h f 1 (copies_of_file site h f) w.0 w.1 (omega arith))

pub retry_range : (site : Site) (h : History) (seen ps : List (List ℕ)) → AllOf (InRange site h) (retried_jobs site h seen ps)
retry_range site h seen [] = tt
retry_range site h seen (p ∷ ps) =
    elim (has_text p seen) as (λ b. AllOf (InRange site h) (if b then retried_jobs site h seen ps else retried_file site h (live_file h p) ++ retried_jobs site h (p ∷ seen) ps)) [
      | true ↦ retry_range site h seen ps
      | false ↦ all_append (InRange site h) (retried_file site h (live_file h p)) _ (file_range site h (live_file h p) (λ f is. named_range h p f is)) (retry_range site h (p ∷ seen) ps)
    ]

-- ---- the copy of a place

pub copy_in : Option Place → ℕ
copy_in None = 0
copy_in (Some p) = p.copy

pub flushed_copy : (h : History) (f c : ℕ) (p : Place) → last_flushed h f c ≡ Some p → p.copy ≡ c
unfolding copy_in
flushed_copy [] f c p is = absurd (cc)
flushed_copy (e ∷ h) f c p is = by (fseq_after (flushed_in e.ask e.answer) f c None) (λ q. flushed_copy h f c p q) is
  where
    by : (o : Option ℕ) → (last_flushed h f c ≡ Some p → p.copy ≡ c) → place_after c (tape_of_mount h (asked_mount e.ask)) o (last_flushed h f c) ≡ Some p → p.copy ≡ c
    by None before q = before q
    by (Some s) before q = sym (ap copy_in q)

-- ---- the items of a Repack

-- the file is one of the history's, and the copy one of its class or its recall
abbrev pub FileRange : Site → History → ℕ → ℕ → Type 0
FileRange site h f c = (1 ≤ f) × (f ≤ length h) × (c ≤ copies_of_file site h f)

-- each copy that was flushed is in range
abbrev pub FlushedInRange : Site → History → Type 0
FlushedInRange site h = (f c : ℕ) (p : Place) → last_flushed h f c ≡ Some p → FileRange site h f c

pub placed : (v s : ℕ) (o : Option Place) → is_at v s o ≡ true → (p : Place) × (o ≡ Some p)
placed v s None e = absurd (cc)
placed v s (Some p) e = (p, refl)

pub repack_range : (site : Site) (h : History) (v : ℕ) → FlushedInRange site h → AllOf (InRange site h) (repack_items h v)
repack_range site h v flushed =
    all_map (InRange site h) (λ (i : Item). job_of 0 i.job.file i.job.copy) (live_items_on h v)
    (all_mono (λ (i : Item). is_at v i.fseq (place_of h i.job.file i.job.copy) ≡ true) (λ (i : Item). InRange site h (job_of 0 i.job.file i.job.copy)) (live_items_on h v)
    (λ i there. (let p = placed v i.fseq (place_of h i.job.file i.job.copy) there in flushed i.job.file i.job.copy p.0 (live_place h i.job.file i.job.copy p.0 p.1).1))
    (all_pass (λ (i : Item). is_at v i.fseq (place_of h i.job.file i.job.copy)) (tape_items h v)))

-- the items that the newest entry repacks
pub named_items : (site : Site) (h : History) (t : ℕ) (k : Ask) (a : Answer) → FlushedInRange site h → AnswerIs site h t k a → AllOf (InRange site h) (items_named k a)
named_items site h t (ask.Repack who v) a flushed is = subst (λ (x : Answer). AllOf (InRange site h) (items_named (ask.Repack who v) x)) (sym is.0) (repack_range site h v flushed)
named_items site h t _ a flushed is = tt

-- ---- what an entry bears

pub copy_range : (site : Site) (h : History) (f c : ℕ) (js : List Job) → AllOf (InRange site h) js → has_copy f c js ≡ true → FileRange site h f c
copy_range site h f c [] all there = absurd (cc)
copy_range site h f c (j ∷ js) all there =
    elim (or_cases (j.file == f && j.copy == c) (has_copy f c js) there) [
      | inl hit ↦
          (let parts : (j.file == f ≡ true) × (j.copy == c ≡ true) = and_parts _ _ hit in
          let file : j.file ≡ f = eqb-true _ _ parts.0 in
          let copy : j.copy ≡ c = eqb-true _ _ parts.1 in
          subst (λ (n : ℕ). FileRange site h n c) file (subst (λ (n : ℕ). FileRange site h j.file n) copy all.0))
      | inr rest ↦ copy_range site h f c js all.1 rest
    ]

-- each item that an entry repacks is in range
abbrev pub ItemsInRange : Site → History → Type 0
ItemsInRange site h = (s : ℕ) → AllOf (InRange site h) (items_in (entry_of h s))

-- each copy with a live archive job is in range
abbrev pub JobsInRange : Site → History → Type 0
JobsInRange site h = (f c : ℕ) → is_some (archive_birth site h f c) ≡ true → FileRange site h f c

pub waiting_in_range : (site : Site) (h : History) → ItemsInRange site h → (f c : ℕ) (ss : List ℕ) → list_any (λ s. has_copy f c (items_in (entry_of h s))) ss ≡ true → FileRange site h f c
waiting_in_range site h items f c [] there = absurd (cc)
waiting_in_range site h items f c (s ∷ ss) there =
    elim (or_cases (has_copy f c (items_in (entry_of h s))) (list_any (λ s. has_copy f c (items_in (entry_of h s))) ss) there)
    [ inl hit ↦ copy_range site h f c (items_in (entry_of h s)) (items s) hit | inr rest ↦ waiting_in_range site h items f c ss rest ]

pub newest_path : (e : Entry) (h : History) → path_of (e ∷ h) (length h + 1) ≡ path_in e.ask
newest_path e h = ap entry_path newest
  where
    newest : entry_of (e ∷ h) (length h + 1) ≡ Some e
    newest = rw (eq-eqb (length h + 1) (length h + 1) refl) refl

pub file_older : (site : Site) (e : Entry) (h : History) (f c : ℕ) → FileRange site h f c → FileRange site (e ∷ h) f c
file_older site e h f c r = range_older site e h (job_of 0 f c) r

pub bears_range : (site : Site) (h : History) (e : Entry) (t f c : ℕ) (k : Ask) (a : Answer) → ItemsInRange site h → FlushedInRange site h → e.ask ≡ k → AnswerIs site h t k a → bears_archive site h k a f c ≡ true → FileRange site (e ∷ h) f c
bears_range site h e t f c (ask.Put who path sum) a items flushed ek is b =
    let parts : (length h + 1 == f ≡ true) × ((nat_le 1 c && nat_le c (copies_of site path)) ≡ true) = and_parts _ _ b in
    let file : length h + 1 ≡ f = eqb-true _ _ parts.0 in
    let fits : c ≤ copies_of site path = leb-true _ _ (and_parts (nat_le 1 c) _ parts.1).1 in
    let same : path_of (e ∷ h) (length h + 1) ≡ path = newest_path e h ∙ ap path_in ek in
    subst (λ (n : ℕ). FileRange site (e ∷ h) n c) file (omega arith, omega arith, subst (λ (p : List ℕ). c ≤ copies_of site p) (sym same) fits)
bears_range site h e t f c (ask.Retry who paths) a items flushed ek is b =
    let there : has_copy f c (retried_jobs site h [] paths.items) ≡ true = subst (λ (x : Answer). bears_archive site h (ask.Retry who paths) x f c ≡ true) is b in
    file_older site e h f c (copy_range site h f c (retried_jobs site h [] paths.items) (retry_range site h [] paths.items) there)
bears_range site h e t f c (ask.Repack who v) a items flushed ek is b =
    let there : (is_resident h f && has_copy f c (repack_items h v)) ≡ true = subst (λ (x : Answer). bears_archive site h (ask.Repack who v) x f c ≡ true) is.0 b in
    file_older site e h f c (copy_range site h f c (repack_items h v) (repack_range site h v flushed) (and_parts (is_resident h f) _ there).1)
bears_range site h e t f c (ask.Recalled m job) (answer.Arrived fate.Done) items flushed ek is b = file_older site e h f c (waiting_in_range site h items f c (waiting_for (live_recall site h f)) (and_parts (job.file == f) _ b).1)
bears_range site h e t f c _ a items flushed ek is b = absurd (cc)

pub recall_range : (site : Site) (h : History) → IsLegal site h → (f : ℕ) → is_some (live_recall site h f) ≡ true → FileRange site h f 0
recall_range site h legal f on = (let w : (1 ≤ f) × (f ≤ length h) = named_within h f (path_of h f) (recall_live site h legal f on) in (w.0, w.1, omega arith))

pub live_in_range : (site : Site) (h : History) → IsLegal site h → JobsInRange site h → (f c b : ℕ) → is_number b (live_birth site h f c) ≡ true → FileRange site h f c
live_in_range site h legal jobs f zero b e = recall_range site h legal f (recall_some (live_recall site h f) e)
  where
    recall_some : (o : Option Recall) → is_number b (birth_in o) ≡ true → is_some o ≡ true
    recall_some None x = absurd (cc)
    recall_some (Some r) x = refl
live_in_range site h legal jobs f (suc c) b e = jobs f (suc c) (number_some (archive_birth site h f (suc c)) e)
  where
    number_some : (o : Option ℕ) → is_number b o ≡ true → is_some o ≡ true
    number_some None x = absurd (cc)
    number_some (Some n) x = refl

-- ---- what an entry flushes was live

pub done_live : (b : Bool) → is_done (if b then fate.Done else fate.Stale) ≡ true → b ≡ true
done_live true e = refl
done_live false e = absurd (cc)

-- an item that is told Done has a live job of its copy
pub done_job : (site : Site) (h : History) (f c : ℕ) (items : List Item) → list_any (is_copy_of f c) (zip items (map (λ (i : Item). fate_of site h i.job) items)) ≡ true → (j : Job) × (j.file ≡ f) × (j.copy ≡ c) × (is_live_job site h j ≡ true)
done_job site h f c [] e = absurd (cc)
done_job site h f c (i ∷ items) e =
    elim (or_cases (is_copy_of f c (i, fate_of site h i.job)) _ e) [
      | inl hit ↦
          (let parts = and_parts (is_done (fate_of site h i.job)) _ hit in
          let both = and_parts (i.job.file == f) (i.job.copy == c) parts.1 in
          (i.job, eqb-true _ _ both.0, eqb-true _ _ both.1, done_live (is_live_job site h i.job) parts.0))
      | inr rest ↦ done_job site h f c items rest
    ]

pub told_job : (site : Site) (h : History) (t f c s : ℕ) (k : Ask) (a : Answer) → AnswerIs site h t k a → fseq_after (flushed_in k a) f c None ≡ Some s → (j : Job) × (j.file ≡ f) × (j.copy ≡ c) × (is_live_job site h j ≡ true)
told_job site h t f c s (ask.Flushed m items) a is e =
    let told : fseq_after (zip items.items (map (λ (i : Item). fate_of site h i.job) items.items)) f c None ≡ Some s = subst (λ (x : Answer). fseq_after (flushed_in (ask.Flushed m items) x) f c None ≡ Some s) is e in
    done_job site h f c items.items (flushed_done (zip items.items (map (λ (i : Item). fate_of site h i.job) items.items)) f c (ap is_some told))
told_job site h t f c s _ a is e = absurd (cc)

-- ---- all three, one entry after the other

pub record Ranges (site : Site) (h : History) : Type 0 where
  pub items : ItemsInRange site h
  pub jobs : JobsInRange site h
  pub flushed : FlushedInRange site h

items_step : (site : Site) (e : Entry) (h : History) (t : ℕ) → Ranges site h → AnswerIs site h t e.ask e.answer → ItemsInRange site (e ∷ h)
items_step site e h t r is s =
    elim (bool_cases (s == length h + 1)) [
      | inl hit ↦ rw hit (all_mono (InRange site h) (InRange site (e ∷ h)) (items_named e.ask e.answer) (λ j x. range_older site e h j x) (named_items site h t e.ask e.answer r.flushed is))
      | inr miss ↦ rw miss (all_mono (InRange site h) (InRange site (e ∷ h)) (items_in (entry_of h s)) (λ j x. range_older site e h j x) (r.items s))
    ]

jobs_step : (site : Site) (e : Entry) (h : History) (t : ℕ) → Ranges site h → AnswerIs site h t e.ask e.answer → (f c : ℕ) (o : Option ℕ) → (is_some o ≡ true → FileRange site h f c) → is_some (archive_after site h e f c o) ≡ true → FileRange site (e ∷ h) f c
jobs_step site e h t r is f c None before =
    elim (bool_cases (bears_archive site h e.ask e.answer f c)) [
      | inl b ↦ λ on. bears_range site h e t f c e.ask e.answer r.items r.flushed refl is b
      | inr d ↦ λ on. (let bad : false ≡ true = rw d at on in absurd (cc))
    ]
jobs_step site e h t r is f c (Some birth) before = λ on. file_older site e h f c (before refl)

flushed_step : (site : Site) (e : Entry) (h : History) (t : ℕ) → IsLegal site h → Ranges site h → AnswerIs site h t e.ask e.answer → FlushedInRange site (e ∷ h)
flushed_step site e h t legal r is f c p there =
    elim (place_cases c (tape_of_mount h (asked_mount e.ask)) (fseq_after (flushed_in e.ask e.answer) f c None) (last_flushed h f c) p there) [
      | inl new ↦
          (let j = told_job site h t f c p.fseq e.ask e.answer is new.0 in
          let live : FileRange site h j.0.file j.0.copy = live_in_range site h legal r.jobs j.0.file j.0.copy j.0.birth j.3 in
          file_older site e h f c (subst (λ (n : ℕ). FileRange site h f n) j.2 (subst (λ (n : ℕ). FileRange site h n j.0.copy) j.1 live)))
      | inr old ↦ file_older site e h f c (r.flushed f c p old.1)
    ]

pub ranges : (site : Site) (h : History) → IsLegal site h → Ranges site h
ranges site [] legal = record { items = λ s. tt; jobs = λ f c on. absurd (cc); flushed = λ f c p is. absurd (cc) }
ranges site (e ∷ h) legal =
    let r : Ranges site h = ranges site h legal.0 in
    let is : AnswerIs site h (moment_of h e.at) e.ask e.answer = answer_is site h e.at e.ask e.answer legal.1.answered legal.1.accepted in
    record {
      items = items_step site e h (moment_of h e.at) r is;
      jobs = λ f c. jobs_step site e h (moment_of h e.at) r is f c (archive_birth site h f c) (λ on. r.jobs f c on);
      flushed = flushed_step site e h (moment_of h e.at) legal.0 r is;
    }

-- ---- what is in range in a legal history

pub entry_range : (site : Site) (h : History) → IsLegal site h → (s : ℕ) → AllOf (InRange site h) (items_in (entry_of h s))
entry_range site h legal = (ranges site h legal).items

pub archive_range : (site : Site) (h : History) → IsLegal site h → (f c : ℕ) → is_some (archive_birth site h f c) ≡ true → FileRange site h f c
archive_range site h legal = (ranges site h legal).jobs

pub flushed_in_range : (site : Site) (h : History) → IsLegal site h → (f c : ℕ) (p : Place) → last_flushed h f c ≡ Some p → FileRange site h f c
flushed_in_range site h legal = (ranges site h legal).flushed

pub waiting_range : (site : Site) (h : History) → IsLegal site h → (f c : ℕ) (ss : List ℕ) → list_any (λ s. has_copy f c (items_in (entry_of h s))) ss ≡ true → FileRange site h f c
waiting_range site h legal f c ss there = waiting_in_range site h (entry_range site h legal) f c ss there

pub birth_range : (site : Site) (h : History) → IsLegal site h → (f c b : ℕ) → is_number b (live_birth site h f c) ≡ true → FileRange site h f c
birth_range site h legal f c b e = live_in_range site h legal (archive_range site h legal) f c b e

-- a live job is in range
pub job_range : (site : Site) (h : History) → IsLegal site h → (j : Job) → is_live_job site h j ≡ true → InRange site h j
job_range site h legal j e = birth_range site h legal j.file j.copy j.birth e
