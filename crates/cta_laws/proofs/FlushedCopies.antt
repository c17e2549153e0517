-- A copy that is flushed with fate Done is one of its file's class, and had a live archive job.
use Rattle.std.proofs.Common.{◌≡◌, ℕ, zero, suc, ◌≤◌, ◌⊎◌, inl, inr, List, [], ◌∷◌, true, false, not, Bool, refl, sym, ap, subst, arith, length}
use Rattle.std.specs.Prelude.{Option, Some, None, is_some, if◌then◌else◌, ◌==◌, ◌&&◌, zip, map}
use Rattle.std.specs.List.{list_all}
use Rattle.std.proofs.lemmas.Bool.{and_parts, eqb-true}
use Rattle.cta_site.specs.declared.site.Site.{Site}
use Rattle.cta_site.specs.Listed.{Listed, rows}
use Rattle.cta_model.specs.declared.asks.Ask.{Ask}
use Rattle.cta_model.specs.declared.answers.Answer.{Answer}
use Rattle.cta_model.specs.declared.asks.Fate.{Fate}
use Rattle.cta_model.specs.declared.asks.Item.{Item}
use Rattle.cta_model.specs.declared.asks.Job.{Job}
use Rattle.cta_model.specs.declared.states.Place.{Place}
use Rattle.cta_model.specs.History.{History, is_number}
use Rattle.cta_model.specs.Files.{is_live, path_of, copies_of_file}
use Rattle.cta_model.specs.Mounts.{mount_of, is_open, claimed_items, item_jobs, has_job, same_job, asked_mount, tape_of_mount, last_batch}
use Rattle.cta_model.specs.Places.{last_flushed, fseq_after, flushed_in, is_copy_of, is_done}
use Rattle.cta_model.specs.Jobs.{archive_birth, is_live_job, live_birth}
use Rattle.cta_model.specs.Answers.{refuse, answer_of, is_too_heavy, is_known, is_last_batch, claims_all, fate_of, flushed_answer}
use Rattle.cta_model.specs.Legal.{IsLegal, IsFit, IsMountOf}
use Rattle.cta_laws.specs.Places.{PlacesAreOnSite, PlacesAreOfCopies}
use Rattle.cta_laws.proofs.Tests.{bool_cases, or_left, or_right, or_cases}
use Rattle.cta_laws.proofs.EndLaw.{job_among}
use Rattle.cta_laws.proofs.PlaceLaw.{flushed_known, flushed_below, live_place, named_within, place_cases}
use Rattle.cta_laws.proofs.RangeLaw.{archive_range}
use Rattle.cta_laws.proofs.JobLists.{job_self}
use Rattle.cta_laws.proofs.OnceLaw.{same_job_eq}
use Rattle.cta_laws.proofs.KeyLaw.{flushed_tape}
use Rattle.cta_laws.proofs.JobFiles.{archive_resident, resident_parts}
use Rattle.cta_laws.proofs.FileFrames.{copies_older}
use Rattle.cta_laws.proofs.Ways.{IsOfWay, claimed_way, writes_some}
use Rattle.cta_model.specs.declared.asks.Ask.TheVariants as ask
use Rattle.cta_model.specs.declared.asks.Direction.TheVariants as direction
use Rattle.cta_model.specs.declared.answers.Answer.TheVariants as answer
use Rattle.cta_model.specs.declared.answers.Refusal.TheVariants as refusal
use Rattle.cta_model.specs.declared.asks.Fate.TheVariants as fate

-- ---- an item with fate Done

pub flushed_told : (site : Site) (h : History) (t m : ℕ) (items : Listed Item) (fates : Listed Fate) → answer.Told fates ≡ answer_of site h t (ask.Flushed m items) → fates.items ≡ map (λ (i : Item). fate_of site h i.job) items.items
flushed_told site h t m items fates is = by (is_too_heavy site h (ask.Flushed m items) (flushed_answer site h m items.items)) (not (is_known h m (item_jobs items.items) && is_last_batch (last_batch h m) items.items)) is
  where
    by : (heavy bad : Bool) → answer.Told fates ≡ refuse refusal.HistoryFull heavy (refuse refusal.Unknown bad (answer.Told (rows (map (λ (i : Item). fate_of site h i.job) items.items)))) → fates.items ≡ map (λ (i : Item). fate_of site h i.job) items.items
    by true bad e = absurd (cc)
    by false true e = absurd (cc)
    by false false e = (let same : fates ≡ rows (map (λ (i : Item). fate_of site h i.job) items.items) = cc in ap (λ (r : Listed Fate). r.items) same)

-- a live job of the copy among these
pub record FoundDone (site : Site) (h : History) (xs : List Item) (f c : ℕ) : Type 0 where
  pub job : Job
  pub file : job.file ≡ f
  pub copy : job.copy ≡ c
  pub live : is_live_job site h job ≡ true
  pub there : has_job job (item_jobs xs) ≡ true

pub fate_live : (b : Bool) → is_done (if b then fate.Done else fate.Stale) ≡ true → b ≡ true
fate_live true e = refl
fate_live false e = absurd (cc)

pub found_done : (site : Site) (h : History) (xs : List Item) (f c : ℕ) (before : Option ℕ) (s : ℕ) → fseq_after (zip xs (map (λ (i : Item). fate_of site h i.job) xs)) f c before ≡ Some s → FoundDone site h xs f c ⊎ (before ≡ Some s)
found_done site h [] f c before s e = inr e
found_done site h (x ∷ xs) f c before s e =
    elim (found_done site h xs f c (if is_copy_of f c (x, fate_of site h x.job) then Some x.fseq else before) s e) [
      | inl later ↦ inl (record { job = later.job; file = later.file; copy = later.copy; live = later.live; there = or_right (same_job later.job x.job) _ later.there })
      | inr q ↦
          elim (bool_cases (is_copy_of f c (x, fate_of site h x.job))) [
            | inl hit ↦
                (let p = and_parts (is_done (fate_of site h x.job)) _ hit in
                let r = and_parts (x.job.file == f) _ p.1 in
                inl (record { job = x.job; file = eqb-true _ _ r.0; copy = eqb-true _ _ r.1; live = fate_live (is_live_job site h x.job) p.0; there = or_left (same_job x.job x.job) _ (job_self x.job) }))
            | inr miss ↦ inr (rw miss at q)
          ]
    ]

pub put_done : (site : Site) (h : History) (t m : ℕ) (items : Listed Item) (fates : Listed Fate) → answer.Told fates ≡ answer_of site h t (ask.Flushed m items) → (f c s : ℕ) → fseq_after (zip items.items fates.items) f c None ≡ Some s → FoundDone site h items.items f c
put_done site h t m items fates is f c s e =
    let there : fseq_after (zip items.items (map (λ (i : Item). fate_of site h i.job) items.items)) f c None ≡ Some s = subst (λ (fs : List Fate). fseq_after (zip items.items fs) f c None ≡ Some s) (flushed_told site h t m items fates is) e in
    elim (found_done site h items.items f c None s there) [ inl d ↦ d | inr x ↦ absurd (cc) ]

pub claimed_by_all : (items : List Item) (js : List Job) (j : Job) → list_all (λ j. has_job j (item_jobs items)) js ≡ true → has_job j js ≡ true → has_job j (item_jobs items) ≡ true
claimed_by_all items [] j all there = absurd (cc)
claimed_by_all items (k ∷ js) j all there =
    let parts = and_parts (has_job k (item_jobs items)) _ all in
    elim (or_cases (same_job j k) (has_job j js) there) [
      | inl hit ↦ subst (λ (x : Job). has_job x (item_jobs items) ≡ true) (sym (same_job_eq j k hit)) parts.0
      | inr rest ↦ claimed_by_all items js j parts.1 rest
    ]

-- it is of a live file, and of a copy of its class
pub record IsCopyOf (site : Site) (h : History) (f c : ℕ) : Type 0 where
  pub live : is_live h f ≡ true
  pub from : 1 ≤ c
  pub to : c ≤ copies_of_file site h f
  pub born : is_some (archive_birth site h f c) ≡ true

pub archive_of : (site : Site) (h : History) (j : Job) (f c : ℕ) → j.file ≡ f → j.copy ≡ c → 1 ≤ c → is_live_job site h j ≡ true → is_some (archive_birth site h f c) ≡ true
archive_of site h j f c file copy low live =
    let there : is_number j.birth (live_birth site h f c) ≡ true = subst (λ (n : ℕ). is_number j.birth (live_birth site h n c) ≡ true) file (subst (λ (n : ℕ). is_number j.birth (live_birth site h j.file n) ≡ true) copy live) in
    by c low there
  where
    some : (o : Option ℕ) → is_number j.birth o ≡ true → is_some o ≡ true
    some None e = absurd (cc)
    some (Some n) e = refl

    by : (c : ℕ) → 1 ≤ c → is_number j.birth (live_birth site h f c) ≡ true → is_some (archive_birth site h f c) ≡ true
    by zero low e = absurd (omega arith)
    by (suc c) low e = some (archive_birth site h f (suc c)) e

pub archive_live : (site : Site) (h : History) → IsLegal site h → (f c : ℕ) → 1 ≤ c → is_some (archive_birth site h f c) ≡ true → is_live h f ≡ true
archive_live site h legal f zero low on = absurd (omega arith)
archive_live site h legal f (suc c) low on = (resident_parts h f (archive_resident site h legal f c on)).0

pub done_copy : (site : Site) (h : History) → IsLegal site h → (t m : ℕ) (items : Listed Item) (fates : Listed Fate) → answer.Told fates ≡ answer_of site h t (ask.Flushed m items) → IsMountOf direction.Archive (mount_of h m) → (f c s : ℕ) → fseq_after (zip items.items fates.items) f c None ≡ Some s → IsCopyOf site h f c
done_copy site h legal t m items fates is way f c s e =
    let d = put_done site h t m items fates is f c s e in
    let known = (flushed_known site h t m items (answer.Told fates) is refl).0 in
    let all : claims_all h m (item_jobs items.items) ≡ true = (and_parts (claims_all h m (item_jobs items.items)) _ (and_parts (is_open h m) _ known).1).0 in
    let claimed : has_job d.job (item_jobs (claimed_items h m)) ≡ true = claimed_by_all (claimed_items h m) (item_jobs items.items) d.job all d.there in
    let ofway : IsOfWay (mount_of h m) d.job = job_among (IsOfWay (mount_of h m)) (claimed_items h m) (claimed_way site h legal m) d.job claimed in
    let from : 1 ≤ c = (let x : 1 ≤ d.job.copy = writes_some (mount_of h m) d.job way ofway in omega (arith, d.copy)) in
    let born : is_some (archive_birth site h f c) ≡ true = archive_of site h d.job f c d.file d.copy from d.live in
    record { live = archive_live site h legal f c from born; from = from; to = (archive_range site h legal f c born).2; born = born }

-- ---- a place is of a copy of its file's class

pub copy_by : (site : Site) (h : History) → IsLegal site h → (t f c s : ℕ) (k : Ask) (a : Answer) → a ≡ answer_of site h t k → IsFit site h k → fseq_after (flushed_in k a) f c None ≡ Some s → IsCopyOf site h f c
copy_by site h legal t f c s (ask.Flushed m items) (answer.Told fates) is fit e = done_copy site h legal t m items fates is fit f c s e
copy_by site h legal t f c s _ a is fit e = absurd (cc)

pub flushed_range : (site : Site) (h : History) → IsLegal site h → (f c : ℕ) (p : Place) → last_flushed h f c ≡ Some p → (1 ≤ c) × (c ≤ copies_of_file site h f)
flushed_range site [] legal f c p is = absurd (cc)
flushed_range site (e ∷ h) legal f c p is =
    elim (place_cases c (tape_of_mount h (asked_mount e.ask)) (fseq_after (flushed_in e.ask e.answer) f c None) (last_flushed h f c) p is) [
      | inl new ↦
          (let d = copy_by site h legal.0 e.at f c p.fseq e.ask e.answer legal.1.answered legal.1.fit new.0 in
          let low : f ≤ length h = (named_within h f (path_of h f) d.live).1 in
          (d.from, (let to : c ≤ copies_of_file site h f = d.to in omega (arith, copies_older site e h f low))))
      | inr old ↦
          (let low : f ≤ length h = flushed_below site h legal.0 f c p old.1 in
          let r = flushed_range site h legal.0 f c p old.1 in
          (r.0, (let to : c ≤ copies_of_file site h f = r.1 in omega (arith, copies_older site e h f low))))
    ]

-- ---- the laws of places

pub places_are_on_site : PlacesAreOnSite
places_are_on_site site h legal f c p is = flushed_tape site h legal f c p (live_place h f c p is).1

pub places_are_of_copies : PlacesAreOfCopies
places_are_of_copies site h legal f c p is = flushed_range site h legal f c p (live_place h f c p is).1
