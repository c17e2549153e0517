-- A file with a live archive job is resident, and one with a live recall is not.
use Rattle.std.proofs.Common.{◌≡◌, ◌∙◌, ℕ, zero, suc, ◌+◌, ◌≤◌, inl, inr, List, [], ◌∷◌, ◌++◌, Bool, true, false, ◌&&◌, not, refl, sym, ap, subst, arith, length}
use Rattle.std.specs.Prelude.{Option, Some, None, is_none, is_some, if◌then◌else◌, ◌==◌, bytes_eq, filter, map}
use Rattle.std.specs.List.{list_any, range_with_len}
use Rattle.std.proofs.lemmas.Bool.{and_parts, eqb-true, eq-eqb}
use Rattle.std.proofs.lemmas.Slice.Eq.{bytes_eq-Decides}
use Rattle.cta_site.specs.declared.site.Site.{Site}
use Rattle.cta_site.specs.Listed.{Listed, rows}
use Rattle.cta_model.specs.declared.entries.Entry.{Entry}
use Rattle.cta_model.specs.declared.asks.Ask.{Ask}
use Rattle.cta_model.specs.declared.answers.Answer.{Answer}
use Rattle.cta_model.specs.declared.asks.Who.{Who}
use Rattle.cta_model.specs.declared.asks.Job.{Job}
use Rattle.cta_model.specs.declared.states.Mount.{Mount}
use Rattle.cta_model.specs.History.{History, entry_of, is_number, moment_of, has_text, is_empty}
use Rattle.cta_model.specs.Files.{live_file, live_after, is_live, path_of, copies_of_file}
use Rattle.cta_model.specs.Mounts.{mount_of, same_job, claims, job_of, has_copy}
use Rattle.cta_model.specs.Places.{was_flushed, is_taped, places_of}
use Rattle.cta_model.specs.Buffer.{brings_in, evicts, arrival_after, last_arrival, is_resident}
use Rattle.cta_model.specs.Recalls.{Recall, live_recall, recall_after, recall_goes_on, bears_recall, recall_job, lives_unless, waits_for}
use Rattle.cta_model.specs.Jobs.{archive_birth, archive_after, bears_archive, ends_archive, live_birth, is_live_job}
use Rattle.cta_model.specs.RepackItems.{waiting_for, items_in}
use Rattle.cta_model.specs.Space.{may_be_evicted, has_archive_job}
use Rattle.cta_model.specs.Pins.{is_pinned}
use Rattle.cta_model.specs.Queues.{direction_of, way_by}
use Rattle.cta_model.specs.Answers.{refuse, answer_of, is_known, is_failed, retried_file, retried_jobs}
use Rattle.cta_model.specs.Legal.{IsLegal, IsNext, IsFit, IsMountOf}
use Rattle.cta_laws.proofs.Tests.{bool_cases, or_cases, or_left, next_not}
use Rattle.cta_laws.proofs.Claims.{AllOf, all_append}
use Rattle.cta_laws.proofs.OnceLaw.{birth_in}
use Rattle.cta_laws.proofs.PlaceLaw.{live_before, named_within}
use Rattle.cta_laws.proofs.LengthLaw.{not_unknown}
use Rattle.cta_laws.proofs.JobLists.{job_self}
use Rattle.cta_laws.proofs.LostLaw.{resident_by, evicts_may, kept_live}
use Rattle.cta_laws.proofs.RangeLaw.{archive_range}
use Rattle.cta_laws.proofs.ResidentLaw.{recall_live, born_live}
use Rattle.cta_model.specs.declared.asks.Ask.TheVariants as ask
use Rattle.cta_model.specs.declared.asks.Fate.TheVariants as fate
use Rattle.cta_model.specs.declared.answers.Answer.TheVariants as answer
use Rattle.cta_model.specs.declared.answers.Refusal.TheVariants as refusal
use Rattle.cta_model.specs.declared.asks.Direction.TheVariants as direction
use Rattle.cta_laws.proofs.Paths.{known_path, other_path, put_keeps}
use Rattle.cta_laws.proofs.Frames.{is_live_same}
use Rattle.cta_laws.specs.Changes.{may_change_files}
use Rattle.cta_laws.proofs.ResidentLaw.{arrives}
use Rattle.cta_laws.proofs.Claimers.{ends_known}
use Rattle.cta_laws.proofs.Ways.{claims_way}
use Rattle.cta_laws.proofs.JobLaw.{not_true}
use Rattle.cta_laws.proofs.Ranges.{in_range_all, any_in_range}

-- ---- what is resident

pub resident_parts : (h : History) (f : ℕ) → is_resident h f ≡ true → (is_live h f ≡ true) × (is_some (last_arrival h f) ≡ true)
resident_parts h f e = by (is_live h f) refl e
  where
    by : (b : Bool) → is_live h f ≡ b → is_some (if b then last_arrival h f else None) ≡ true → (is_live h f ≡ true) × (is_some (last_arrival h f) ≡ true)
    by true is e = (is, e)
    by false is e = absurd (cc)

arrival_kept : (brings out : Bool) (n : ℕ) (o : Option ℕ) → is_some o ≡ true → out ≡ false → is_some (arrival_after brings out n o) ≡ true
arrival_kept true out n o e d = refl
arrival_kept false true n o e d = absurd (cc)
arrival_kept false false n o e d = e

arrival_was : (brings out : Bool) (n : ℕ) (o : Option ℕ) → brings ≡ false → is_some (arrival_after brings out n o) ≡ true → is_some o ≡ true
arrival_was true out n o d e = absurd (cc)
arrival_was false true n o d e = absurd (cc)
arrival_was false false n o d e = e

-- a file that stays live, and that the answer does not list as evicted, stays resident
pub resident_stays : (e : Entry) (h : History) (f : ℕ) → is_resident h f ≡ true → is_live (e ∷ h) f ≡ true → evicts e.ask e.answer f ≡ false → is_resident (e ∷ h) f ≡ true
resident_stays e h f was live kept = resident_by (e ∷ h) f live (arrival_kept (brings_in e.ask e.answer (length h + 1) f) (evicts e.ask e.answer f) (length h + 1) (last_arrival h f) (resident_parts h f was).1 kept)

-- an older file that the entry does not bring in was resident before where it is after
pub resident_was : (e : Entry) (h : History) (f : ℕ) → f ≤ length h → brings_in e.ask e.answer (length h + 1) f ≡ false → is_resident (e ∷ h) f ≡ true → is_resident h f ≡ true
resident_was e h f low brings now =
    (let parts : (is_live (e ∷ h) f ≡ true) × (is_some (last_arrival (e ∷ h) f) ≡ true) = resident_parts (e ∷ h) f now in
    resident_by h f (live_before e h f low parts.0) (arrival_was (brings_in e.ask e.answer (length h + 1) f) (evicts e.ask e.answer f) (length h + 1) (last_arrival h f) brings parts.1))

-- an entry that deletes no file of this path leaves the file live
pub live_kept : (site : Site) (h : History) (e : Entry) (f : ℕ) → IsNext site h e → f ≤ length h → ((who : Who) (path : List ℕ) → e.ask ≡ ask.Delete who path → bytes_eq path (path_of h f) ≡ false) → is_live (e ∷ h) f ≡ is_live h f
live_kept site h e f next low kept = by e.ask refl
  where
    by : (k : Ask) → e.ask ≡ k → is_live (e ∷ h) f ≡ is_live h f
    by (ask.Put who path sum) ek = put_keeps e site h who path sum f next ek low
    by (ask.Delete who path) ek = other_path e h who path f ek low (kept who path ek)
    by (ask.Stage who files) ek = is_live_same e h f low (ap may_change_files ek)
    by (ask.Cancel who id paths) ek = is_live_same e h f low (ap may_change_files ek)
    by (ask.DropStage who id) ek = is_live_same e h f low (ap may_change_files ek)
    by (ask.Release who id paths) ek = is_live_same e h f low (ap may_change_files ek)
    by (ask.Next d) ek = is_live_same e h f low (ap may_change_files ek)
    by (ask.Claim m) ek = is_live_same e h f low (ap may_change_files ek)
    by (ask.Flushed m items) ek = is_live_same e h f low (ap may_change_files ek)
    by (ask.Recalled m job) ek = is_live_same e h f low (ap may_change_files ek)
    by (ask.Failed m fault charged returned) ek = is_live_same e h f low (ap may_change_files ek)
    by (ask.End m fault) ek = is_live_same e h f low (ap may_change_files ek)
    by (ask.DriveUp who d) ek = is_live_same e h f low (ap may_change_files ek)
    by (ask.DriveDown who d) ek = is_live_same e h f low (ap may_change_files ek)
    by (ask.TapeState who v s) ek = is_live_same e h f low (ap may_change_files ek)
    by (ask.Reclaim who v) ek = is_live_same e h f low (ap may_change_files ek)
    by (ask.Repack who v) ek = is_live_same e h f low (ap may_change_files ek)
    by (ask.Retry who paths) ek = is_live_same e h f low (ap may_change_files ek)

-- ---- what a Retry names

pub live_path : (h : History) (p : List ℕ) (f : ℕ) → live_file h p ≡ Some f → path_of h f ≡ p
live_path h p f is = (known_path h p f is).1

pub named_live : (h : History) (p : List ℕ) (f : ℕ) → live_file h p ≡ Some f → is_live h f ≡ true
named_live h p f is = subst (λ (o : Option ℕ). is_number f o ≡ true) (sym (ap (live_file h) (live_path h p f is) ∙ is)) (eq-eqb f f refl)

-- a failed copy: of a live file, from 1 to the class's copies, never flushed, and with no live job
abbrev pub IsFailedCopy : Site → History → Job → Type 0
IsFailedCopy site h j = (is_live h j.file ≡ true) × (was_flushed h j.file j.copy ≡ false) × (1 ≤ j.copy) × (j.copy ≤ copies_of_file site h j.file) × (is_none (archive_birth site h j.file j.copy) ≡ true)

not_and : (a b : Bool) → (not a && b) ≡ true → a ≡ false
not_and true b e = absurd (cc)
not_and false b e = refl

copies_failed : (site : Site) (h : History) (f a n : ℕ) → is_live h f ≡ true → 1 ≤ a → a + n ≤ copies_of_file site h f + 1 → AllOf (IsFailedCopy site h) (map (job_of (length h + 1) f) (filter (is_failed site h f) (range_with_len a n)))
copies_failed site h f a zero live low fits = tt
copies_failed site h f a (suc n) live low fits =
    elim (bool_cases (is_failed site h f a)) [
      | inl hit ↦ rw hit ((live, not_and (was_flushed h f a) (is_none (archive_birth site h f a)) hit, low, omega arith, (and_parts (not (was_flushed h f a)) _ hit).1), copies_failed site h f (a + 1) n live (omega arith) (omega arith))
      | inr miss ↦ rw miss (copies_failed site h f (a + 1) n live (omega arith) (omega arith))
    ]

file_failed : (site : Site) (h : History) (o : Option ℕ) → ((f : ℕ) → o ≡ Some f → is_live h f ≡ true) → AllOf (IsFailedCopy site h) (retried_file site h o)
file_failed site h None live = tt
file_failed site h (Some f) live = copies_failed site h f 1 (copies_of_file site h f) (live f refl) (omega arith) (omega arith)

pub retry_failed : (site : Site) (h : History) (seen ps : List (List ℕ)) → AllOf (IsFailedCopy site h) (retried_jobs site h seen ps)
retry_failed site h seen [] = tt
retry_failed site h seen (p ∷ ps) =
    elim (has_text p seen) as (λ b. AllOf (IsFailedCopy site h) (if b then retried_jobs site h seen ps else retried_file site h (live_file h p) ++ retried_jobs site h (p ∷ seen) ps)) [
      | true ↦ retry_failed site h seen ps
      | false ↦ all_append (IsFailedCopy site h) (retried_file site h (live_file h p)) _ (file_failed site h (live_file h p) (λ f is. named_live h p f is)) (retry_failed site h (p ∷ seen) ps)
    ]

pub copy_failed : (site : Site) (h : History) (f c : ℕ) (js : List Job) → AllOf (IsFailedCopy site h) js → has_copy f c js ≡ true → IsFailedCopy site h (job_of 0 f c)
copy_failed site h f c [] all there = absurd (cc)
copy_failed site h f c (j ∷ js) all there =
    elim (or_cases (j.file == f && j.copy == c) (has_copy f c js) there) [
      | inl hit ↦
          (let parts : (j.file == f ≡ true) × (j.copy == c ≡ true) = and_parts _ _ hit in
          let file : j.file ≡ f = eqb-true _ _ parts.0 in
          let copy : j.copy ≡ c = eqb-true _ _ parts.1 in
          subst (λ (n : ℕ). IsFailedCopy site h (job_of 0 n c)) file (subst (λ (n : ℕ). IsFailedCopy site h (job_of 0 j.file n)) copy all.0))
      | inr rest ↦ copy_failed site h f c js all.1 rest
    ]

jobs_told : Answer → List Job
jobs_told (answer.Retried jobs) = jobs.items
jobs_told _ = []

pub retried_is : (heavy none : Bool) (xs : List Job) (jobs : Listed Job) → answer.Retried jobs ≡ refuse refusal.HistoryFull heavy (refuse refusal.NoFile none (answer.Retried (rows xs))) → jobs.items ≡ xs
unfolding jobs_told
retried_is true none xs jobs e = absurd (cc)
retried_is false true xs jobs e = absurd (cc)
retried_is false false xs jobs e = ap jobs_told e

-- the file of a failed copy is resident
failed_resident : (site : Site) (h : History) → IsLegal site h → (j : Job) → IsFailedCopy site h j → is_resident h j.file ≡ true
failed_resident site h legal j failed =
    elim (kept_live site h legal j.file failed.0) [
      | inl here ↦ resident_by h j.file failed.0 here
      | inr taped ↦ (let flushed : was_flushed h j.file j.copy ≡ true = in_range_all (was_flushed h j.file) 1 (copies_of_file site h j.file) taped j.copy failed.2 (let high : j.copy ≤ copies_of_file site h j.file = failed.3 in omega arith) in let no : was_flushed h j.file j.copy ≡ false = failed.1 in absurd (cc))
    ]

-- ---- a live archive job's file is resident

pub older_live : (h : History) (f : ℕ) → is_live h f ≡ true → f ≤ length h
older_live h f live = (named_within h f (path_of h f) live).1

no_delete : (e : Entry) (h : History) (f : ℕ) (k : Ask) → e.ask ≡ k → ((who : Who) (path : List ℕ) → k ≡ ask.Delete who path → bytes_eq path (path_of h f) ≡ false) → (who : Who) (path : List ℕ) → e.ask ≡ ask.Delete who path → bytes_eq path (path_of h f) ≡ false
no_delete e h f k ek kept who path is = kept who path (sym ek ∙ is)

-- an older resident file stays so after an entry that deletes nothing and lists nothing
quiet_resident : (site : Site) (h : History) (e : Entry) (f : ℕ) → IsNext site h e → may_change_files e.ask ≡ false → evicts e.ask e.answer f ≡ false → is_resident h f ≡ true → is_resident (e ∷ h) f ≡ true
quiet_resident site h e f next files lists was =
    (let live : is_live h f ≡ true = (resident_parts h f was).0 in
    resident_stays e h f was (is_live_same e h f (older_live h f live) files ∙ live) lists)

waits : (test : ℕ → Bool) (o : Option Recall) → list_any test (waiting_for o) ≡ true → is_some o ≡ true
waits test None e = absurd (cc)
waits test (Some r) e = refl

born_resident : (site : Site) (h : History) (e : Entry) (f c : ℕ) → IsLegal site (e ∷ h) → (k : Ask) (a : Answer) → e.ask ≡ k → e.answer ≡ a → bears_archive site h k a f c ≡ true → is_resident (e ∷ h) f ≡ true
born_resident site h e f c legal (ask.Put who path sum) a ek ea b =
    (let file : length h + 1 ≡ f = eqb-true _ _ (and_parts (length h + 1 == f) _ b).0 in
    let named : live_file (e ∷ h) path ≡ Some (length h + 1) = ap (λ (k : Ask). live_after k (length h + 1) path (live_file h path)) ek ∙ rw ((bytes_eq-Decides path path).1 refl) refl in
    let brings : brings_in e.ask e.answer (length h + 1) (length h + 1) ≡ true = ap (λ (k : Ask). brings_in k e.answer (length h + 1) (length h + 1)) ek ∙ eq-eqb (length h + 1) (length h + 1) refl in
    subst (λ (n : ℕ). is_resident (e ∷ h) n ≡ true) file (resident_by (e ∷ h) (length h + 1) (named_live (e ∷ h) path (length h + 1) named) (arrives (brings_in e.ask e.answer (length h + 1) (length h + 1)) (evicts e.ask e.answer (length h + 1)) (length h + 1) (last_arrival h (length h + 1)) brings)))
born_resident site h e f c legal (ask.Retry who paths) (answer.Retried jobs) ek ea b =
    (let told : answer.Retried jobs ≡ answer_of site h e.at (ask.Retry who paths) = sym ea ∙ legal.1.answered ∙ ap (answer_of site h e.at) ek in
    let is : jobs.items ≡ retried_jobs site h [] paths.items = retried_is _ _ (retried_jobs site h [] paths.items) jobs told in
    let there : has_copy f c (retried_jobs site h [] paths.items) ≡ true = subst (λ (js : List Job). has_copy f c js ≡ true) is b in
    let failed : IsFailedCopy site h (job_of 0 f c) = copy_failed site h f c (retried_jobs site h [] paths.items) (retry_failed site h [] paths.items) there in
    quiet_resident site h e f legal.1 (ap may_change_files ek) (ap (λ (k : Ask). evicts k e.answer f) ek) (failed_resident site h legal.0 (job_of 0 f c) failed))
born_resident site h e f c legal (ask.Repack who v) (answer.Repacking id items) ek ea b = quiet_resident site h e f legal.1 (ap may_change_files ek) (ap (λ (k : Ask). evicts k e.answer f) ek) (and_parts (is_resident h f) _ b).0
born_resident site h e f c legal (ask.Recalled m job) (answer.Arrived fate.Done) ek ea b =
    (let file : (job.file == f) ≡ true = (and_parts (job.file == f) _ b).0 in
    let on : is_some (live_recall site h f) ≡ true = waits (λ s. has_copy f c (items_in (entry_of h s))) (live_recall site h f) (and_parts (job.file == f) _ b).1 in
    let live : is_live h f ≡ true = recall_live site h legal.0 f on in
    let brings : brings_in e.ask e.answer (length h + 1) f ≡ true = ap (λ (k : Ask). brings_in k e.answer (length h + 1) f) ek ∙ ap (λ (a : Answer). brings_in (ask.Recalled m job) a (length h + 1) f) ea ∙ file in
    resident_by (e ∷ h) f (is_live_same e h f (older_live h f live) (ap may_change_files ek) ∙ live) (arrives (brings_in e.ask e.answer (length h + 1) f) (evicts e.ask e.answer f) (length h + 1) (last_arrival h f) brings))
born_resident site h e f c legal _ a ek ea b = absurd (cc)

has_one : (site : Site) (h : History) (f c : ℕ) → suc c ≤ copies_of_file site h f → is_some (archive_birth site h f (suc c)) ≡ true → has_archive_job site h f ≡ true
has_one site h f c low on = any_in_range (λ k. is_some (archive_birth site h f k)) 1 (copies_of_file site h f) (suc c) (omega arith) (omega arith) on

stays_here : (site : Site) (h : History) (e : Entry) (f c b : ℕ) → IsLegal site (e ∷ h) → is_resident h f ≡ true → archive_birth site h f (suc c) ≡ Some b → ends_archive site h e.ask e.answer (job_of b f (suc c)) ≡ false → is_resident (e ∷ h) f ≡ true
stays_here site h e f c b legal was is goes_on =
    (let on : is_some (archive_birth site h f (suc c)) ≡ true = ap is_some is in
    let range : (1 ≤ f) × (f ≤ length h) × (suc c ≤ copies_of_file site h f) = archive_range site h legal.0 f (suc c) on in
    let has : has_archive_job site h f ≡ true = has_one site h f c range.2 on in
    let kept : evicts e.ask e.answer f ≡ false = elim (bool_cases (evicts e.ask e.answer f)) [ inl out ↦ absurd (cannot has (evicts_may site h e.at e.ask e.answer f legal.1.answered out)) | inr stays ↦ stays ] in
    let live : is_live (e ∷ h) f ≡ is_live h f = live_kept site h e f legal.1 range.1 (λ who path ek. sym (ap (λ (k : Ask). ends_archive site h k e.answer (job_of b f (suc c))) ek) ∙ goes_on) in
    resident_stays e h f was (live ∙ (resident_parts h f was).0) kept)
  where
    cannot : has_archive_job site h f ≡ true → may_be_evicted site h (moment_of h e.at) f ≡ true → ⊥
    cannot has may =
        (let none : not (has_archive_job site h f) ≡ true = (and_parts (not (is_empty (places_of site h f))) _ (and_parts (is_taped site h f) _ (and_parts (not (is_pinned site h (moment_of h e.at) f)) _ may).1).1).1 in
        let bad : false ≡ true = rw has at none in absurd (cc))

resident_step : (site : Site) (h : History) (e : Entry) (f c : ℕ) → IsLegal site (e ∷ h) → (is_some (archive_birth site h f (suc c)) ≡ true → is_resident h f ≡ true) → (o : Option ℕ) → archive_birth site h f (suc c) ≡ o → is_some (archive_after site h e f (suc c) o) ≡ true → is_resident (e ∷ h) f ≡ true
resident_step site h e f c legal before None is on =
    elim (bool_cases (bears_archive site h e.ask e.answer f (suc c)))
    [ inl b ↦ born_resident site h e f (suc c) legal e.ask e.answer refl refl b | inr d ↦ (let bad : false ≡ true = rw d at on in absurd (cc)) ]
resident_step site h e f c legal before (Some b) is on =
    elim (bool_cases (ends_archive site h e.ask e.answer (job_of b f (suc c))))
    [ inl t ↦ (let bad : false ≡ true = rw t at on in absurd (cc)) | inr t ↦ stays_here site h e f c b legal (before (ap is_some is)) is t ]

pub archive_resident : (site : Site) (h : History) → IsLegal site h → (f c : ℕ) → is_some (archive_birth site h f (suc c)) ≡ true → is_resident h f ≡ true
archive_resident site [] legal f c on = absurd (cc)
archive_resident site (e ∷ h) legal f c on = resident_step site h e f c legal (λ x. archive_resident site h legal.0 f c x) (archive_birth site h f (suc c)) refl on

-- ---- a live recall's file is not resident

bears_quietly : (site : Site) (h : History) (k : Ask) (a : Answer) (n f : ℕ) → bears_recall site h k f ≡ true → brings_in k a n f ≡ false
bears_quietly site h (ask.Stage who files) a n f b = refl
bears_quietly site h (ask.Repack who v) a n f b = refl
bears_quietly site h _ a n f b = absurd (cc)

not_resident : (b : Bool) → not b ≡ true → b ≡ false
not_resident true e = absurd (cc)
not_resident false e = refl

going : (b : Bool) (r : Recall) → is_some (lives_unless b r) ≡ true → b ≡ false
going true r e = absurd (cc)
going false r e = refl

pub arrived_live : (live t : Bool) → answer.Arrived fate.Done ≡ refuse refusal.Unknown t (answer.Arrived (if live then fate.Done else fate.Stale)) → live ≡ true
arrived_live true t y = refl
arrived_live false true y = absurd (cc)
arrived_live false false y = absurd (cc)

-- what a Recalled names is a recall
pub recalled_way : (site : Site) (h : History) (e : Entry) (m : ℕ) (job : Job) → IsLegal site (e ∷ h) → e.ask ≡ ask.Recalled m job → direction_of job ≡ direction.Retrieve
recalled_way site h e m job legal ek =
    (let answered : e.answer ≡ answer_of site h e.at (ask.Recalled m job) = legal.1.answered ∙ ap (answer_of site h e.at) ek in
    let known : is_known h m (job ∷ []) ≡ true = not_unknown (is_known h m (job ∷ [])) _ e.answer answered legal.1.accepted in
    let claimed : claims h m job ≡ true = (ends_known site h m (job ∷ []) known).1 job (or_left (same_job job job) false (job_self job)) in
    let fit : IsFit site h (ask.Recalled m job) = subst (λ (k : Ask). IsFit site h k) ek legal.1.fit in
    by (mount_of h m) refl fit claimed)
  where
    by : (o : Option Mount) → mount_of h m ≡ o → IsMountOf direction.Retrieve o → claims h m job ≡ true → direction_of job ≡ direction.Retrieve
    by None is fit c = absurd (fit)
    by (Some x) is fit c = claims_way site h legal.0 m x job is c ∙ fit

pub recall_copy : (c : ℕ) → way_by c ≡ direction.Retrieve → c ≡ 0
recall_copy zero e = refl
recall_copy (suc c) e = absurd (cc)

number_is : (b : ℕ) (r : Recall) (o : Option Recall) → o ≡ Some r → is_number b (birth_in o) ≡ true → b ≡ r.birth
number_is b r None is e = absurd (cc)
number_is b r (Some q) is e = (let same : q ≡ r = cc in eqb-true b q.birth e ∙ ap (λ (x : Recall). x.birth) same)

made : ℕ → ℕ → ℕ → Job
made a b c = record { birth = a; file = b; copy = c }

made_same : (a b c x y z : ℕ) → a ≡ x → b ≡ y → c ≡ z → made a b c ≡ made x y z
made_same a b c x y z p q r = cc

pub goes_quietly : (site : Site) (h : History) (e : Entry) (f : ℕ) (r : Recall) → IsLegal site (e ∷ h) → live_recall site h f ≡ Some r → f ≤ length h → (k : Ask) (a : Answer) → e.ask ≡ k → e.answer ≡ a → is_some (recall_goes_on site h e f r k a) ≡ true → brings_in k a (length h + 1) f ≡ false
unfolding made
goes_quietly site h e f r legal is low (ask.Put who path sum) a ek ea on = next_not f (length h) low
goes_quietly site h e f r legal is low (ask.Recalled m job) (answer.Arrived fate.Done) ek ea on =
    elim (bool_cases (job.file == f)) [
      | inr other ↦ other
      | inl hit ↦
          (let told : answer.Arrived fate.Done ≡ answer_of site h e.at (ask.Recalled m job) = sym ea ∙ legal.1.answered ∙ ap (answer_of site h e.at) ek in
          let live : is_live_job site h job ≡ true = arrived_live (is_live_job site h job) (not (is_known h m (job ∷ []))) told in
          let copy : job.copy ≡ 0 = recall_copy job.copy (recalled_way site h e m job legal ek) in
          let file : job.file ≡ f = eqb-true job.file f hit in
          let recall : is_number job.birth (birth_in (live_recall site h f)) ≡ true = subst (λ (n : ℕ). is_number job.birth (live_birth site h n 0) ≡ true) file (subst (λ (c : ℕ). is_number job.birth (live_birth site h job.file c) ≡ true) copy live) in
          let birth : job.birth ≡ r.birth = number_is job.birth r (live_recall site h f) is recall in
          let same : job ≡ recall_job r.birth f = made_same job.birth job.file job.copy r.birth f 0 birth file copy in
          let ends : same_job job (recall_job r.birth f) ≡ true = subst (λ (j : Job). same_job job j ≡ true) same (job_self job) in
          let goes : same_job job (recall_job r.birth f) ≡ false = going (same_job job (recall_job r.birth f)) r on in
          absurd (cc))
    ]
goes_quietly site h e f r legal is low _ a ek ea on = refl

absent_step : (site : Site) (h : History) (e : Entry) (f : ℕ) → IsLegal site (e ∷ h) → (is_some (live_recall site h f) ≡ true → is_resident h f ≡ false) → (o : Option Recall) → live_recall site h f ≡ o → is_some (recall_after site h e f o) ≡ true → is_resident (e ∷ h) f ≡ false
absent_step site h e f legal before None is on =
    elim (bool_cases (bears_recall site h e.ask f)) [
      | inr d ↦ (let bad : false ≡ true = rw d at on in absurd (cc))
      | inl b ↦
          (let absent : is_resident h f ≡ false = not_resident (is_resident h f) (and_parts (not (is_resident h f)) _ (and_parts (waits_for site h e.ask f) _ b).1).0 in
          let low : f ≤ length h = older_live h f (born_live site h e.ask f b) in
          not_true (is_resident (e ∷ h) f) (λ now. (let bad : is_resident h f ≡ true = resident_was e h f low (bears_quietly site h e.ask e.answer (length h + 1) f b) now in absurd (cc))))
    ]
absent_step site h e f legal before (Some r) is on =
    (let some : is_some (live_recall site h f) ≡ true = ap is_some is in
    let low : f ≤ length h = older_live h f (recall_live site h legal.0 f some) in
    let quiet : brings_in e.ask e.answer (length h + 1) f ≡ false = goes_quietly site h e f r legal is low e.ask e.answer refl refl on in
    not_true (is_resident (e ∷ h) f) (λ now. (let bad : is_resident h f ≡ true = resident_was e h f low quiet now in let was : is_resident h f ≡ false = before some in absurd (cc))))

pub recall_absent : (site : Site) (h : History) → IsLegal site h → (f : ℕ) → is_some (live_recall site h f) ≡ true → is_resident h f ≡ false
recall_absent site [] legal f on = absurd (cc)
recall_absent site (e ∷ h) legal f on = absent_step site h e f legal (λ x. recall_absent site h legal.0 f x) (live_recall site h f) refl on

-- so a file with a live recall has no live archive job
pub no_archive : (site : Site) (h : History) → IsLegal site h → (f c : ℕ) → is_some (live_recall site h f) ≡ true → archive_birth site h f (suc c) ≡ None
no_archive site h legal f c on = by (archive_birth site h f (suc c)) refl
  where
    by : (o : Option ℕ) → archive_birth site h f (suc c) ≡ o → archive_birth site h f (suc c) ≡ None
    by None is = is
    by (Some b) is = (let here : is_resident h f ≡ true = archive_resident site h legal f c (ap is_some is) in let absent : is_resident h f ≡ false = recall_absent site h legal f on in absurd (cc))

-- the file of a live job is live
pub job_file_live : (site : Site) (h : History) → IsLegal site h → (j : Job) → is_live_job site h j ≡ true → is_live h j.file ≡ true
job_file_live site h legal j live = by j.copy live
  where
    some_recall : (o : Option Recall) → is_number j.birth (birth_in o) ≡ true → is_some o ≡ true
    some_recall None e = absurd (cc)
    some_recall (Some r) e = refl

    some_birth : (o : Option ℕ) → is_number j.birth o ≡ true → is_some o ≡ true
    some_birth None e = absurd (cc)
    some_birth (Some b) e = refl

    by : (c : ℕ) → is_number j.birth (live_birth site h j.file c) ≡ true → is_live h j.file ≡ true
    by zero e = recall_live site h legal j.file (some_recall (live_recall site h j.file) e)
    by (suc c) e = (resident_parts h j.file (archive_resident site h legal j.file c (some_birth (archive_birth site h j.file (suc c)) e))).0

-- ---- a birth meets no live job

-- where an entry that is no Repack bears an archive job, the copy had none
pub births_meet_none : (site : Site) (h : History) (e : Entry) (f c : ℕ) (k : Ask) (a : Answer) → IsLegal site (e ∷ h) → e.ask ≡ k → e.answer ≡ a → ((who : Who) (v : ℕ) → k ≡ ask.Repack who v → ⊥) → bears_archive site h k a f (suc c) ≡ true → archive_birth site h f (suc c) ≡ None
births_meet_none site h e f c (ask.Put who path sum) a legal ek ea other b =
    let file : length h + 1 ≡ f = eqb-true _ _ (and_parts (length h + 1 == f) _ b).0 in
    by file (archive_birth site h f (suc c)) refl
  where
    by : length h + 1 ≡ f → (o : Option ℕ) → archive_birth site h f (suc c) ≡ o → archive_birth site h f (suc c) ≡ None
    by file None is = is
    by file (Some n) is = (let low : f ≤ length h = older_live h f (resident_parts h f (archive_resident site h legal.0 f c (ap is_some is))).0 in absurd (omega arith))
births_meet_none site h e f c (ask.Retry who paths) (answer.Retried jobs) legal ek ea other b =
    let told : answer.Retried jobs ≡ answer_of site h e.at (ask.Retry who paths) = sym ea ∙ legal.1.answered ∙ ap (answer_of site h e.at) ek in
    let is : jobs.items ≡ retried_jobs site h [] paths.items = retried_is _ _ (retried_jobs site h [] paths.items) jobs told in
    let there : has_copy f (suc c) (retried_jobs site h [] paths.items) ≡ true = subst (λ (js : List Job). has_copy f (suc c) js ≡ true) is b in
    let failed : IsFailedCopy site h (job_of 0 f (suc c)) = copy_failed site h f (suc c) (retried_jobs site h [] paths.items) (retry_failed site h [] paths.items) there in
    none (archive_birth site h f (suc c)) failed.4
  where
    none : (o : Option ℕ) → is_none o ≡ true → o ≡ None
    none None x = refl
    none (Some n) x = absurd (cc)
births_meet_none site h e f c (ask.Recalled m job) (answer.Arrived fate.Done) legal ek ea other b =
    let on : is_some (live_recall site h f) ≡ true = waits (λ s. has_copy f (suc c) (items_in (entry_of h s))) (live_recall site h f) (and_parts (job.file == f) _ b).1 in
    no_archive site h legal.0 f c on
births_meet_none site h e f c (ask.Repack who v) a legal ek ea other b = absurd (other who v refl)
births_meet_none site h e f c _ a legal ek ea other b = absurd (cc)
