-- The jobs that an accepted Retry bears.
use Rattle.std.proofs.Common.{◌≡◌, ◌∙◌, ◌+◌, ◌*◌, ◌≤◌, ◌<◌, ◌^◌, ◌⊎◌, ℕ, inl, inr, List, [], ◌∷◌, ◌++◌, Bool, true, false, ◌||◌, refl, sym, ap, subst, arith, length}
use Rattle.std.specs.Prelude.{Ok, Option, Some, None, is_none, if◌then◌else◌, ◌==◌, ◌&&◌, bytes_eq, map, nat_le, nat_lt}
use Rattle.std.specs.List.{AllByRecursion, list_any}
use Rattle.std.proofs.lemmas.Bool.{eq-eqb, eqb-true, leb-true, and_parts}
use Rattle.std.proofs.lemmas.Bool.Decides.{nat_tests}
use Rattle.std.proofs.lemmas.Slice.Eq.{bytes_eq-Decides}
use Rattle.cta_site.specs.declared.site.Site.{Site}
use Rattle.cta_site.specs.Listed.{rows}
use Rattle.cta_site.specs.ValidSite.{IsValidSite}
use Rattle.cta_site.specs.WellFormed.{IsWellFormed}
use Rattle.cta_model.specs.declared.answers.Answer.{Answer}
use Rattle.cta_model.specs.declared.answers.Answer.TheVariants as answer
use Rattle.cta_model.specs.declared.answers.Refusal.TheVariants as refusal
use Rattle.cta_model.specs.declared.asks.Ask.{Ask}
use Rattle.cta_model.specs.declared.asks.Ask.TheVariants as ask
use Rattle.cta_model.specs.declared.asks.Direction.TheVariants as direction
use Rattle.cta_model.specs.declared.asks.Job.{Job}
use Rattle.cta_model.specs.declared.asks.Who.{Who}
use Rattle.cta_model.specs.declared.entries.Entry.{Entry}
use Rattle.cta_model.specs.Answers.{answer_of, is_accepted, is_failed, names_twice, refuse, retried_file, retried_jobs, retry_answer}
use Rattle.cta_model.specs.Bare.{bare_answer}
use Rattle.cta_model.specs.Files.{copies_of_file, is_live, live_after, live_file, path_of, size_of}
use Rattle.cta_model.specs.History.{History, answer_elements, entry_of, has_text, is_number, weight_of}
use Rattle.cta_model.specs.Jobs.{is_live_job}
use Rattle.cta_model.specs.Legal.{IsLegal, greatest_moment, new_entry}
use Rattle.cta_model.specs.Mounts.{has_copy, has_job}
use Rattle.cta_model.specs.Queues.{is_queued, queue_of}
use Rattle.cta_laws.proofs.Accepted.{answer_is}
use Rattle.cta_laws.proofs.Claims.{AllOf, all_append, all_mono}
use Rattle.cta_laws.proofs.EndLaw.{live_before}
use Rattle.cta_laws.proofs.FileFrames.{copies_older}
use Rattle.cta_laws.proofs.JobFiles.{IsFailedCopy, live_path, retried_is, retry_failed}
use Rattle.cta_laws.proofs.JobLaw.{among, not_true}
use Rattle.cta_laws.proofs.PlaceLaw.{named_within}
use Rattle.cta_laws.proofs.Paths.{known_path}
use Rattle.cta_laws.proofs.Tests.{bool_cases, or_left, or_right}
use Rattle.part_model.specs.declared.jobs.Line.{Line}
use Rattle.part_model.specs.Queues.{Lines, lines_in}
use Rattle.part_laws.specs.Failed.{failed_jobs}
use Rattle.part_laws.specs.Lines.{AreLines, line_of}
use Rattle.part_laws.proofs.CopyJobs.{IsSomeCopy, some_all, some_copies, some_order}
use Rattle.part_laws.proofs.FailedMembers.{failed_births, failed_has, failed_order}
use Rattle.part_laws.proofs.Members.{queue_members}
use Rattle.part_laws.proofs.Orders.{not_either}
use Rattle.part_laws.specs.Laws.{AreSmall, FilesFitBuffer, LinesAreSmall}
use Rattle.job_queues.specs.Waiting.{bytes_of, jobs_of}
use Rattle.part_laws.proofs.PartSteps.{order_once}
use Rattle.part_laws.proofs.RetryParts.{file_of, file_once, twice_both}
use Rattle.kept_history.specs.Puts.{is_put, puts_file}
use Rattle.part_laws.specs.AnswerLaws.{PartsTellOperators}
use Rattle.part_laws.specs.Operators.{retried_told}
use Rattle.part_model.specs.Names.{file_in}
use Rattle.archive_parts.specs.PartsKept.{ArePartsKept, values_of}
use Rattle.archive_parts.specs.declared.parts.ArchiveParts.{ArchiveParts}
use Rattle.fault_asks.specs.Retrying.{AreCopies, CanQueue}
use Rattle.archive_parts.specs.Called.{AreKeptCalled}
use Rattle.archive_parts.specs.Carrying.{IsCarriedOut}
use Rattle.archive_parts.specs.Laws.{KeptPartsMove}
use Rattle.archive_parts.proofs.Behind.{carried_with, legal_behind}
use Rattle.part_moves.proofs.NewJobs.{jobs_of_lines, live_put, not_live, not_newest, put_older, put_there, sizes_small}

-- the entry
abbrev pub retry_entry : History → ℕ → Who → List (List ℕ) → List Job → Entry
retry_entry h t who ps jobs = new_entry h t (ask.Retry who (rows ps)) (answer.Retried (rows jobs))

listed : (P : Job → Type 0) (js : List Job) → AllOf P js → AllByRecursion P js
listed P [] all = tt
listed P (j ∷ js) all = (all.0, listed P js all.1)

-- ---- the failed copies of kept parts

both : (a b : Bool) → a ≡ true → b ≡ true → (a && b) ≡ true
both true b e f = f
both false b e f = absurd (cc)

copies_by : (js : List Job) → ((f c : ℕ) → has_copy f c js ≡ true → 1 ≤ c) → AllByRecursion (λ (j : Job). 1 ≤ j.copy) js
copies_by [] each = tt
copies_by (j ∷ js) each =
    (each j.file j.copy (or_left (j.file == j.file && j.copy == j.copy) _ (both _ _ (eq-eqb j.file j.file refl) (eq-eqb j.copy j.copy refl))), copies_by js (λ f c there. each f c (or_right (j.file == f && j.copy == c) _ there)))

from_one : (site : Site) (h : History) (f c : ℕ) → has_copy f c (failed_jobs site h) ≡ true → 1 ≤ c
from_one site h f c there =
    let parts = and_parts (is_live h f) _ (sym (failed_has site h f c) ∙ there) in
    let more = and_parts (is_failed site h f c) _ parts.1 in
    leb-true 1 c (and_parts (nat_le 1 c) _ more.1).0

pub copies_kept : (site : Site) (h : History) (p : ArchiveParts) → ArePartsKept site h p → AreCopies p.failed.value
copies_kept site h p kept = subst AreCopies (sym kept.stand.failed) (record {
  order = failed_order site h;
  births = listed (λ (j : Job). j.birth ≡ 0) (failed_jobs site h) (failed_births site h);
  copies = copies_by (failed_jobs site h) (from_one site h);
})

-- ---- the jobs

-- born by this entry
file_born : (site : Site) (h : History) (o : Option ℕ) → AllOf (λ (j : Job). j.birth ≡ length h + 1) (retried_file site h o)
file_born site h None = tt
file_born site h (Some f) =
    all_mono (IsSomeCopy (is_failed site h f) (length h + 1) f 1) (λ (j : Job). j.birth ≡ length h + 1) (some_copies (is_failed site h f) (length h + 1) f 1 (copies_of_file site h f)) (λ j p. p.0)
    (some_all (is_failed site h f) (length h + 1) f 1 (copies_of_file site h f))

jobs_born_now : (site : Site) (h : History) (seen ps : List (List ℕ)) → AllOf (λ (j : Job). j.birth ≡ length h + 1) (retried_jobs site h seen ps)
jobs_born_now site h seen [] = tt
jobs_born_now site h seen (p ∷ ps) =
    elim (has_text p seen) as (λ b. AllOf (λ (j : Job). j.birth ≡ length h + 1) (if b then retried_jobs site h seen ps else retried_file site h (live_file h p) ++ retried_jobs site h (p ∷ seen) ps)) [
      | true ↦ jobs_born_now site h seen ps
      | false ↦ all_append (λ (j : Job). j.birth ≡ length h + 1) (retried_file site h (live_file h p)) _ (file_born site h (live_file h p)) (jobs_born_now site h (p ∷ seen) ps)
    ]

-- no two paths name one file, so no job is retried twice

jobs_unseen : (site : Site) (h : History) (seen ps : List (List ℕ)) → AllOf (λ (j : Job). has_text (path_of h j.file) seen ≡ false) (retried_jobs site h seen ps)
jobs_unseen site h seen [] = tt
jobs_unseen site h seen (p ∷ ps) =
    elim (bool_cases (has_text p seen)) [
      | inl there ↦ rw there (jobs_unseen site h seen ps)
      | inr new ↦
          rw new (all_append (λ (j : Job). has_text (path_of h j.file) seen ≡ false) (retried_file site h (live_file h p)) (retried_jobs site h (p ∷ seen) ps)
          (all_mono (λ (j : Job). path_of h j.file ≡ p) (λ (j : Job). has_text (path_of h j.file) seen ≡ false) (retried_file site h (live_file h p)) (λ j is. subst (λ (q : List ℕ). has_text q seen ≡ false) (sym is) new) (file_of site h p (live_file h p) refl))
          (all_mono (λ (j : Job). has_text (path_of h j.file) (p ∷ seen) ≡ false) (λ (j : Job). has_text (path_of h j.file) seen ≡ false) (retried_jobs site h (p ∷ seen) ps) (λ j d. (not_either (bytes_eq (path_of h j.file) p) (has_text (path_of h j.file) seen) d).1) (jobs_unseen site h (p ∷ seen) ps)))
    ]

jobs_once : (site : Site) (h : History) (seen ps : List (List ℕ)) → names_twice (retried_jobs site h seen ps) ≡ false
jobs_once site h seen [] = refl
jobs_once site h seen (p ∷ ps) =
    elim (has_text p seen) as (λ b. names_twice (if b then retried_jobs site h seen ps else retried_file site h (live_file h p) ++ retried_jobs site h (p ∷ seen) ps) ≡ false) [
      | true ↦ jobs_once site h seen ps
      | false ↦ twice_both (retried_file site h (live_file h p)) (retried_jobs site h (p ∷ seen) ps) (file_once site h (live_file h p)) (jobs_once site h (p ∷ seen) ps) (λ j there. apart j there)
    ]
  where
    apart : (j : Job) → has_job j (retried_file site h (live_file h p)) ≡ true → has_job j (retried_jobs site h (p ∷ seen) ps) ≡ false
    apart j there =
        elim (bool_cases (has_job j (retried_jobs site h (p ∷ seen) ps))) [
          | inr miss ↦ miss
          | inl hit ↦
              (let is : path_of h j.file ≡ p = among (λ (j : Job). path_of h j.file ≡ p) (retried_file site h (live_file h p)) (file_of site h p (live_file h p) refl) j there in
              let d : has_text (path_of h j.file) (p ∷ seen) ≡ false = among (λ (j : Job). has_text (path_of h j.file) (p ∷ seen) ≡ false) (retried_jobs site h (p ∷ seen) ps) (jobs_unseen site h (p ∷ seen) ps) j hit in
              let no_match : bytes_eq (path_of h j.file) p ≡ false = (not_either (bytes_eq (path_of h j.file) p) (has_text (path_of h j.file) seen) d).0 in
              let match : bytes_eq (path_of h j.file) p ≡ true = (bytes_eq-Decides (path_of h j.file) p).1 is in
              absurd (cc))
        ]

-- ---- the Puts of the files

number_is : (f : ℕ) (o : Option ℕ) → is_number f o ≡ true → o ≡ Some f
number_is f None e = absurd (cc)
number_is f (Some g) e = ap (λ (n : ℕ). Some n) (sym (eqb-true f g e))

-- ---- the queues

lines_have : (site : Site) (h : History) (lines : Lines) (k : ℕ) (j : Job) → IsLegal site h → AreLines site h direction.Archive lines → has_job j (jobs_of (lines k)) ≡ is_queued site h direction.Archive k j
lines_have site h lines k j legal are =
    ap (λ (ls : List Line). has_job j (jobs_of ls)) (are k) ∙ ap (has_job j) (jobs_of_lines (line_of site h direction.Archive) (λ i. refl) (queue_of site h direction.Archive k)) ∙ queue_members site h legal direction.Archive k j

above : (n m : ℕ) → m ≡ n + 1 → n < m
above n m is = omega arith

-- a job that is born by the next entry is in no queue yet
not_queued : (site : Site) (h : History) (lines : Lines) (j : Job) (k : ℕ) → IsLegal site h → AreLines site h direction.Archive lines → j.birth ≡ length h + 1 → has_job j (jobs_of (lines k)) ≡ false
not_queued site h lines j k legal are is =
    let dead : is_live_job site h j ≡ false = not_live site h j (above (length h) j.birth is) in
    lines_have site h lines k j legal are ∙ rw dead refl

can_queue : (site : Site) (h : History) (e : Entry) (lines : Lines) (js : List Job) → IsLegal site h → AreLines site h direction.Archive lines → AllOf (IsFailedCopy site h) js → AllOf (λ (j : Job). j.birth ≡ length h + 1) js
    → AllByRecursion (CanQueue site (e ∷ h) lines) js
can_queue site h e lines [] legal are failed born = tt
can_queue site h e lines (j ∷ js) legal are failed born =
    let live : is_live h j.file ≡ true = failed.0.0 in
    let low : j.file ≤ length h = (named_within h j.file (path_of h j.file) live).1 in
    let most : j.copy ≤ copies_of_file site h j.file = failed.0.3 in (
      record {
        put = put_older e h j.file low (put_there h (path_of h j.file) j.file (number_is j.file (live_file h (path_of h j.file)) live));
        from = failed.0.2;
        to = subst (λ (n : ℕ). j.copy ≤ n) (sym (copies_older site e h j.file low)) most;
        lacks = λ k. not_queued site h lines j k legal are born.0;
      },
      can_queue site h e lines js legal are failed.1 born.1,
    )

-- ---- a Retry that is accepted

pub record IsRetry (site : Site) (h : History) (t n : ℕ) (who : Who) (ps : List (List ℕ)) (p : ArchiveParts) (jobs : List Job) : Type 0 where
  pub legal : IsLegal site h
  pub within : t ≤ greatest_moment
  pub accepted : is_accepted (answer_of site h t (ask.Retry who (rows ps))) ≡ true
  pub kept : ArePartsKept site h p
  pub tells : PartsTellOperators
  pub number : n ≡ length h + 1
  pub found : jobs ≡ retried_told p.names p.failed.value n [] ps

past_refusals : (heavy none : Bool) (a : Answer) → is_accepted (refuse refusal.HistoryFull heavy (refuse refusal.NoFile none a)) ≡ true → refuse refusal.NoFile none a ≡ a
past_refusals true none a e = absurd (cc)
past_refusals false true a e = absurd (cc)
past_refusals false false a e = refl

not_heavy : (limit weight m : ℕ) (none : Bool) (xs : List Job) → limit ≤ 1000000
    → is_accepted (refuse refusal.HistoryFull (is_accepted (refuse refusal.NoFile none (answer.Retried (rows xs))) && nat_lt limit (weight + (1 + (m + answer_elements (refuse refusal.NoFile none (answer.Retried (rows xs))))))) (refuse refusal.NoFile none (answer.Retried (rows xs)))) ≡ true
    → length xs ≤ 1000000
not_heavy limit weight m true xs top e = absurd (cc)
not_heavy limit weight m false xs top e = by (nat_lt limit (weight + (1 + (m + length xs)))) refl e
  where
    by : (b : Bool) → nat_lt limit (weight + (1 + (m + length xs))) ≡ b → is_accepted (refuse refusal.HistoryFull b (answer.Retried (rows xs))) ≡ true → length xs ≤ 1000000
    by true heavy accepted = absurd (cc)
    by false light accepted = (let fits : weight + (1 + (m + length xs)) ≤ limit = grind (arith, nat_tests) in omega arith)

module _ (site : Site) (h : History) (t n : ℕ) (who : Who) (ps : List (List ℕ)) (p : ArchiveParts) (jobs : List Job) (r : IsRetry site h t n who ps p jobs) where
  light : retry_answer site h ps ≡ answer.Retried (rows (retried_jobs site h [] ps))
  light = past_refusals _ (list_any (λ path. is_none (live_file h path)) ps) (answer.Retried (rows (retried_jobs site h [] ps))) r.accepted

  pub are : jobs ≡ retried_jobs site h [] ps
  are =
      r.found
      ∙ ap (λ (m : ℕ). retried_told p.names p.failed.value m [] ps) r.number
      ∙ sym (retried_is false (list_any (λ path. is_none (file_in p.names path)) ps) (retried_told p.names p.failed.value (length h + 1) [] ps) (rows (retried_jobs site h [] ps)) (sym light ∙ (r.tells site h (values_of p) r.legal r.kept.stand).retry ps))

  pub answered : answer.Retried (rows jobs) ≡ answer_of site h t (ask.Retry who (rows ps))
  answered = ap (λ (js : List Job). answer.Retried (rows js)) are ∙ sym (answer_is site h t (ask.Retry who (rows ps)) (answer_of site h t (ask.Retry who (rows ps))) refl r.accepted)

  pub few : site.limits.history ≤ 1000000 → length jobs ≤ 1000000
  few top =
      subst (λ (js : List Job). length js ≤ 1000000) (sym are)
      (not_heavy site.limits.history (weight_of h) (length ps) (list_any (λ path. is_none (live_file h path)) ps) (retried_jobs site h [] ps) top r.accepted)

  pub longer : IsLegal site (retry_entry h t who ps jobs ∷ h)
  longer = legal_behind site h t (ask.Retry who (rows ps)) (answer.Retried (rows jobs)) r.legal r.within tt answered r.accepted

  pub born : AllByRecursion (λ (j : Job). j.birth ≡ n) jobs
  born =
      subst (λ (m : ℕ). AllByRecursion (λ (j : Job). j.birth ≡ m) jobs) (sym r.number)
      (subst (λ (js : List Job). AllByRecursion (λ (j : Job). j.birth ≡ length h + 1) js) (sym are) (listed (λ (j : Job). j.birth ≡ length h + 1) (retried_jobs site h [] ps) (jobs_born_now site h [] ps)))

  pub once : names_twice jobs ≡ false
  once = ap names_twice are ∙ jobs_once site h [] ps

  pub can : AllByRecursion (CanQueue site (retry_entry h t who ps jobs ∷ h) (lines_in p.pools.value)) jobs
  can =
      subst (λ (js : List Job). AllByRecursion (CanQueue site (retry_entry h t who ps jobs ∷ h) (lines_in p.pools.value)) js) (sym are)
      (can_queue site h (retry_entry h t who ps jobs) (lines_in p.pools.value) (retried_jobs site h [] ps) r.legal r.kept.stand.jobs.pools (retry_failed site h [] ps) (jobs_born_now site h [] ps))

  pub fits : LinesAreSmall → IsValidSite site → site.limits.history ≤ 1000000 → (k : ℕ) → bytes_of (lines_in p.pools.value k) + 2147483648 * length jobs < 2 ^ 64
  fits law valid top k =
      let small : AreSmall site (bytes_of (lines_in p.pools.value k)) = law site h direction.Archive (lines_in p.pools.value) valid r.legal r.kept.stand.jobs.pools k in
      let low : bytes_of (lines_in p.pools.value k) ≤ 36028797018963968 = small.low in
      let many : length jobs ≤ 1000000 = few top in
      omega (arith, low, many)

-- it is carried out once the calls are made and the entry is added
pub retry_carried : {E : Type 0} (site s : Site) (h g : History) (t n : ℕ) (who : Who) (ps : List (List ℕ)) (a : Answer) (p p' : ArchiveParts) (jobs js : List Job) → KeptPartsMove → IsRetry site h t n who ps p jobs → s ≡ site → js ≡ jobs → bare_answer a ≡ answer.Retried (rows jobs) → g ≡ retry_entry h t who ps jobs ∷ h
    → ((h : History) (t : ℕ) (who : Who) (paths : List (List ℕ)) → IsLegal s (retry_entry h t who paths js ∷ h) → g ≡ retry_entry h t who paths js ∷ h → n ≡ length h + 1 → ArePartsKept s h p → AreKeptCalled s h (retry_entry h t who paths js) p p')
    → IsCarriedOut {E = E} site h t (ask.Retry who (rows ps)) (Ok a) g p'
retry_carried site s h g t n who ps a p p' jobs js moves r same listed_so told is calls =
    let called : AreKeptCalled s h (retry_entry h t who ps js) p p' =
    calls h t who ps
    (subst (λ (x : Site). IsLegal x (retry_entry h t who ps js ∷ h)) (sym same) (subst (λ (xs : List Job). IsLegal site (retry_entry h t who ps xs ∷ h)) (sym listed_so) (longer site h t n who ps p jobs r)))
    (is ∙ ap (λ (xs : List Job). retry_entry h t who ps xs ∷ h) (sym listed_so)) r.number (subst (λ (x : Site). ArePartsKept x h p) (sym same) r.kept) in
    carried_with site h g t (ask.Retry who (rows ps)) a (answer.Retried (rows jobs)) p p' moves (record { at = r.within; legal = r.legal; kept = r.kept; fit = tt; accepted = r.accepted }) told (answered site h t n who ps p jobs r)
    (subst (λ (x : Site). AreKeptCalled x h (retry_entry h t who ps jobs) p p') same (subst (λ (xs : List Job). AreKeptCalled s h (retry_entry h t who ps xs) p p') listed_so called)) is

-- the jobs are those of the parts before room was made
pub found_so : (p q : ArchiveParts) (n : ℕ) (ps bytes : List (List ℕ)) (jobs : List Job) → jobs ≡ retried_told p.names p.failed.value n [] bytes → bytes ≡ ps → q.names ≡ p.names → q.failed.value ≡ p.failed.value
    → jobs ≡ retried_told q.names q.failed.value n [] ps
found_so p q n ps bytes jobs found same names failed =
    found ∙ ap (retried_told p.names p.failed.value n []) same ∙ (λ i. retried_told (sym names i) (sym failed i) n [] ps)

-- the history with the entry
pub pushed_so : (h k g : History) (t : ℕ) (who : Who) (ps : List (List ℕ)) (told listed_jobs jobs : List Job) → g ≡ new_entry k t (ask.Retry who (rows ps)) (answer.Retried (rows told)) ∷ k → k ≡ h → told ≡ listed_jobs → listed_jobs ≡ jobs → g ≡ retry_entry h t who ps jobs ∷ h
pushed_so h k g t who ps told listed_jobs jobs is same one two =
    is ∙ ap (λ (xs : List Job). new_entry k t (ask.Retry who (rows ps)) (answer.Retried (rows xs)) ∷ k) (one ∙ two) ∙ ap (λ (x : History). new_entry x t (ask.Retry who (rows ps)) (answer.Retried (rows jobs)) ∷ x) same
