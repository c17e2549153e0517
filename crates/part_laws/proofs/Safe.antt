-- Safe flags that an entry leaves as they were.
use Rattle.std.proofs.Common.{◌≡◌, ℕ, ◌≤◌, ◌⊎◌, inl, inr, List, [], ◌∷◌, Bool, true, false, not, refl, ◌∙◌, ap, length}
use Rattle.std.specs.Prelude.{Option, None, if◌then◌else◌, ◌==◌, ◌&&◌, bytes_eq, filter}
use Rattle.std.specs.List.{list_any}
use Rattle.std.proofs.lemmas.Bool.{or_parts}
use Rattle.cta_site.specs.declared.site.Site.{Site}
use Rattle.cta_site.specs.declared.site.TapeState.{TapeState}
use Rattle.cta_model.specs.declared.entries.Entry.{Entry}
use Rattle.cta_model.specs.declared.asks.Ask.{Ask}
use Rattle.cta_model.specs.declared.answers.Answer.{Answer}
use Rattle.cta_model.specs.declared.asks.Fate.{Fate}
use Rattle.cta_model.specs.declared.asks.Item.{Item}
use Rattle.cta_model.specs.declared.asks.Job.{Job}
use Rattle.cta_model.specs.declared.states.Place.{Place}
use Rattle.cta_model.specs.History.{History, has_number}
use Rattle.cta_model.specs.Files.{is_live, path_of}
use Rattle.cta_model.specs.Mounts.{has_job, same_job, asked_mount, tape_of_mount, job_of, has_copy}
use Rattle.cta_model.specs.Tapes.{tape_state, state_after, is_broken}
use Rattle.cta_model.specs.Places.{last_flushed, fseq_after, flushed_in, is_copy_of, is_done, place_after, place_of, all_places, places_of, has_place_on}
use Rattle.cta_model.specs.Jobs.{bears_archive, ends_archive}
use Rattle.cta_laws.proofs.Tests.{bool_cases, next_not}
use Rattle.cta_model.specs.declared.asks.Ask.TheVariants as ask
use Rattle.cta_model.specs.declared.answers.Answer.TheVariants as answer
use Rattle.cta_model.specs.declared.asks.Fate.TheVariants as fate
use Rattle.cta_model.specs.Space.{is_safe}
use Rattle.part_laws.specs.Buffer.{entering, is_file_of, is_put_of, touches}
use Rattle.cta_laws.proofs.Bools.{not_same, turned}
use Rattle.cta_laws.proofs.FileFrames.{all_places_same, archive_same_at, jobs_same, taped_same}

-- ---- tests that fail for lists

pub and_no : (a b : Bool) → a ≡ false → (a && b) ≡ false
and_no true b e = absurd (cc)
and_no false b e = refl

-- ---- the copies of a file that no item put on tape

pub not_copy : (f c : ℕ) (x : Item × Fate) → is_put_of f x ≡ false → is_copy_of f c x ≡ false
not_copy f c x d = by (is_done x.1) (x.0.job.file == f) (x.0.job.copy == c) d
  where
    by : (a b d : Bool) → (a && b) ≡ false → (a && (b && d)) ≡ false
    by true true d e = absurd (cc)
    by true false d e = refl
    by false b d e = refl

pub put_other : (xs : List (Item × Fate)) (f c : ℕ) (before : Option ℕ) → list_any (is_put_of f) xs ≡ false → fseq_after xs f c before ≡ before
put_other [] f c before d = refl
put_other (x ∷ xs) f c before d =
    let parts : (is_put_of f x ≡ false) × (list_any (is_put_of f) xs ≡ false) = or_parts _ _ d in
    let miss : is_copy_of f c x ≡ false = not_copy f c x parts.0 in
    rw miss (put_other xs f c before parts.1)

pub flushed_other : (h : History) (f c : ℕ) (k : Ask) (a : Answer) (before : Option Place) → list_any (is_put_of f) (flushed_in k a) ≡ false → place_after c (tape_of_mount h (asked_mount k)) (fseq_after (flushed_in k a) f c None) before ≡ before
flushed_other h f c k a before d = rw (put_other (flushed_in k a) f c None d) refl

pub ends_other : (xs : List (Item × Fate)) (f c b : ℕ) → list_any (is_put_of f) xs ≡ false → list_any (λ (x : Item × Fate). is_done x.1 && same_job x.0.job (job_of b f c)) xs ≡ false
ends_other [] f c b d = refl
ends_other (x ∷ xs) f c b d =
    let parts : (is_put_of f x ≡ false) × (list_any (is_put_of f) xs ≡ false) = or_parts _ _ d in
    rw (here (is_done x.1) (bool_cases (x.0.job.file == f)) parts.0) (ends_other xs f c b parts.1)
  where
    here : (a : Bool) → ((x.0.job.file == f) ≡ true) ⊎ ((x.0.job.file == f) ≡ false) → (a && (x.0.job.file == f)) ≡ false → (a && same_job x.0.job (job_of b f c)) ≡ false
    here true (inl hit) e = absurd (cc)
    here true (inr miss) e = not_same x.0.job (job_of b f c) miss
    here false o e = refl

pub no_copy : (f c : ℕ) (js : List Job) → is_file_of f js ≡ false → has_copy f c js ≡ false
no_copy f c [] d = refl
no_copy f c (j ∷ js) d =
    let parts : ((j.file == f) ≡ false) × (is_file_of f js ≡ false) = or_parts _ _ d in
    rw (and_no (j.file == f) (j.copy == c) parts.0) (no_copy f c js parts.1)

pub no_job : (f c b : ℕ) (js : List Job) → is_file_of f js ≡ false → has_job (job_of b f c) js ≡ false
no_job f c b [] d = refl
no_job f c b (j ∷ js) d =
    let parts : ((j.file == f) ≡ false) × (is_file_of f js ≡ false) = or_parts _ _ d in
    rw (not_same (job_of b f c) j (turned j.file f parts.0)) (no_job f c b js parts.1)

-- ---- what an entry does to the archive jobs of a file that it does not touch

pub and_not : (b : Bool) → (b && false) ≡ false
and_not true = refl
and_not false = refl

pub bears_other : (site : Site) (h : History) (k : Ask) (a : Answer) (f c : ℕ) → f ≤ length h → touches site h k a f ≡ false → has_number f (entering h k a) ≡ false → bears_archive site h k a f c ≡ false
bears_other site h (ask.Put who path sum) a f c low d new = rw (next_not f (length h) low) refl
bears_other site h (ask.Retry who paths) (answer.Retried jobs) f c low d new = no_copy f c jobs.items d
bears_other site h (ask.Repack who v) (answer.Repacking id items) f c low d new = rw (no_copy f c items.items d) (and_not _)
bears_other site h (ask.Recalled m job) (answer.Arrived fate.Done) f c low d new = and_no (job.file == f) _ (turned f job.file (or_parts (f == job.file) false new).0)
bears_other site h _ a f c low d new = refl

-- no Delete of the file
abbrev pub KeepsFile : History → Ask → ℕ → Type 0
KeepsFile h (ask.Delete who path) f = bytes_eq path (path_of h f) ≡ false
KeepsFile h _ f = Unit {0}

pub ends_other_by : (site : Site) (h : History) (k : Ask) (a : Answer) (f c b : ℕ) → touches site h k a f ≡ false → KeepsFile h k f → ends_archive site h k a (job_of b f c) ≡ false
ends_other_by site h (ask.Flushed m items) a f c b d keeps = ends_other (flushed_in (ask.Flushed m items) a) f c b d
ends_other_by site h (ask.Failed m fault charged returned) a f c b d keeps = rw (no_job f c b charged.items d) refl
ends_other_by site h (ask.Delete who path) a f c b d keeps = keeps
ends_other_by site h _ a f c b d keeps = refl

-- ---- a file that an entry does not touch has its flag as it was

pub flushed_by : (site : Site) (h : History) (k : Ask) (a : Answer) (f c : ℕ) (before : Option Place) → touches site h k a f ≡ false → place_after c (tape_of_mount h (asked_mount k)) (fseq_after (flushed_in k a) f c None) before ≡ before
flushed_by site h (ask.Flushed m items) a f c before d = flushed_other h f c (ask.Flushed m items) a before d
flushed_by site h _ a f c before d = refl

-- states matter at the file's places alone
pub filter_same_on : (site : Site) (k : Ask) (h : History) (v : ℕ) (s : TapeState) (ps : List Place) → has_place_on v ps ≡ false → filter (λ (p : Place). not (is_broken (if v == p.tape then s else tape_state site h p.tape))) ps ≡ filter (λ (p : Place). not (is_broken (tape_state site h p.tape))) ps
filter_same_on site k h v s [] d = refl
filter_same_on site k h v s (p ∷ ps) d =
    let parts : ((p.tape == v) ≡ false) × (has_place_on v ps ≡ false) = or_parts _ _ d in
    rw (turned p.tape v parts.0, filter_same_on site k h v s ps parts.1) refl

pub states_by : (site : Site) (h : History) (k : Ask) (a : Answer) (f : ℕ) → touches site h k a f ≡ false → filter (λ (p : Place). not (is_broken (state_after k p.tape (tape_state site h p.tape)))) (all_places site h f) ≡ filter (λ (p : Place). not (is_broken (tape_state site h p.tape))) (all_places site h f)
states_by site h (ask.TapeState who v s) a f d = filter_same_on site (ask.TapeState who v s) h v s (all_places site h f) d
states_by site h _ a f d = refl

-- a live file that stays live, is not touched and does not enter
pub untouched_safe : (site : Site) (h : History) (e : Entry) (f : ℕ) → f ≤ length h → is_live (e ∷ h) f ≡ is_live h f → KeepsFile h e.ask f → touches site h e.ask e.answer f ≡ false → has_number f (entering h e.ask e.answer) ≡ false → is_safe site (e ∷ h) f ≡ is_safe site h f
untouched_safe site h e f low live keeps d new =
    let taped = taped_same site e h f low flushed in
    let places : places_of site (e ∷ h) f ≡ places_of site h f =
    ap (filter (λ (p : Place). not (is_broken (tape_state site (e ∷ h) p.tape)))) (all_places_same site e h f low place) ∙ states_by site h e.ask e.answer f d in
    let jobs = jobs_same site e h f low (λ c. archive_same_at site h e f c (bears_other site h e.ask e.answer f c low d new) (λ b. ends_other_by site h e.ask e.answer f c b d keeps)) in
    rw (taped, places, jobs) refl
  where
    flushed : (c : ℕ) → last_flushed (e ∷ h) f c ≡ last_flushed h f c
    flushed c = flushed_by site h e.ask e.answer f c (last_flushed h f c) d

    place : (c : ℕ) → place_of (e ∷ h) f c ≡ place_of h f c
    place c = rw (live, flushed c) refl
