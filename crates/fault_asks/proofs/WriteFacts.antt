-- What the calls for a Failed of a mount that writes may count on.
use Rattle.std.proofs.Common.{◌≡◌, ◌∙◌, ◌+◌, ◌*◌, ◌^◌, ◌<◌, ◌≤◌, ◌⊎◌, ℕ, zero, suc, inl, inr, List, [], ◌∷◌, ◌++◌, length, Bool, true, false, ◌||◌, not, refl, sym, ap, subst, arith}
use Rattle.std.specs.Prelude.{Option, Some, None, is_none, is_some, ◌==◌, ◌&&◌}
use Rattle.std.specs.List.{AllByRecursion}
use Rattle.std.proofs.lemmas.Bool.{and_parts, eqb-true}
use Rattle.cta_site.specs.declared.site.Site.{Site}
use Rattle.cta_site.specs.WellFormed.{IsWellFormed}
use Rattle.cta_site.specs.ValidSite.{IsValidSite}
use Rattle.cta_model.specs.declared.asks.Direction.TheVariants as direction
use Rattle.cta_model.specs.declared.asks.Fault.{Fault}
use Rattle.cta_model.specs.declared.asks.Job.{Job}
use Rattle.cta_model.specs.declared.states.Mount.{Mount}
use Rattle.cta_model.specs.Charges.{charges_of}
use Rattle.cta_model.specs.Places.{was_flushed}
use Rattle.cta_model.specs.History.{History, entry_of, is_number}
use Rattle.cta_model.specs.Jobs.{archive_birth, is_live_job, live_birth}
use Rattle.cta_model.specs.Mounts.{drive_by, has_copy, has_job, mount_of, same_job, tape_by}
use Rattle.cta_model.specs.Queues.{key_of, way_by}
use Rattle.cta_model.specs.Answers.{is_failed, names_twice}
use Rattle.cta_model.specs.Legal.{IsMountOf}
use Rattle.cta_model.specs.Files.{is_live}
use Rattle.cta_laws.specs.Claims.{size_of_jobs}
use Rattle.cta_laws.proofs.JobLists.{filter_le}
use Rattle.cta_laws.proofs.KeyLaw.{OpenIsGood, open_good}
use Rattle.cta_laws.proofs.OnceLaw.{same_job_eq}
use Rattle.cta_laws.proofs.Tests.{bool_cases, or_left, or_right}
use Rattle.job_book.specs.Live.{lives}
use Rattle.job_queues.specs.Waiting.{bytes_of, jobs_of}
use Rattle.kept_history.specs.Puts.{is_put}
use Rattle.part_model.specs.declared.jobs.Line.{Line}
use Rattle.part_model.specs.JobBook.{TellSame, charge_jobs, end_jobs, give_back_jobs}
use Rattle.part_model.specs.JobRows.{JobRows, book_in}
use Rattle.part_model.specs.Queues.{Lines, lines_in}
use Rattle.part_laws.specs.QueueBooks.{IsBook}
use Rattle.part_laws.specs.Failed.{failed_jobs}
use Rattle.part_laws.specs.Lines.{line_of}
use Rattle.part_laws.proofs.FailedMembers.{failed_has, has_failed}
use Rattle.part_laws.proofs.FailSteps.{twice_filter}
use Rattle.part_laws.specs.Laws.{AreSmall, FilesFitBuffer, LinesAreSmall}
use Rattle.part_laws.specs.AllParts.{jobs_in}
use Rattle.archive_parts.specs.PartsKept.{ArePartsKept, values_of}
use Rattle.archive_parts.specs.declared.parts.ArchiveParts.{ArchiveParts}
use Rattle.fault_asks.specs.Failing.{CanFail, CanQueue, add_by, is_last_in, jobs_ended, jobs_live}
use Rattle.fault_asks.proofs.BackLists.{bytes_by, fewer, lacks_by, parts_none}
use Rattle.fault_asks.proofs.Claimed.{IsClaimable, in_front}
use Rattle.fault_asks.proofs.EndedJobs.{book_behind, ended_has}
use Rattle.fault_asks.proofs.FailFacts.{IsFailure, all_from, apart, back_is, behind, can_queue, claimed_waits_not, claimer, failed_entry, few_jobs, first_once, last_once, named_claimable, named_way, once_all, opened, room_in, room_left, sizes_low, small_files}

archive_copy : (c : ℕ) → way_by c ≡ direction.Archive → 1 ≤ c
archive_copy zero e = absurd (cc)
archive_copy (suc c) e = omega arith

-- ---- failed copies

-- a job of a copy that is among jobs
copy_there : (f c : ℕ) (js : List Job) → has_copy f c js ≡ true → (k : Job) × (has_job k js ≡ true) × (k.file ≡ f) × (k.copy ≡ c)
copy_there f c [] e = absurd (cc)
copy_there f c (j ∷ js) e = by (j.file == f && j.copy == c) refl e (λ more. copy_there f c js more)
  where
    by : (b : Bool) → (j.file == f && j.copy == c) ≡ b → (b || has_copy f c js) ≡ true → (has_copy f c js ≡ true → (k : Job) × (has_job k js ≡ true) × (k.file ≡ f) × (k.copy ≡ c)) → (k : Job) × (has_job k (j ∷ js) ≡ true) × (k.file ≡ f) × (k.copy ≡ c)
    by true is e rest = (let p = and_parts (j.file == f) _ is in (j, or_left (same_job j j) (has_job j js) (grind arith), eqb-true _ _ p.0, eqb-true _ _ p.1))
    by false is e rest = (let r = rest e in (r.0, or_right (same_job r.0 j) (has_job r.0 js) r.1, r.2, r.3))

the_number : (b : ℕ) (o : Option ℕ) → is_number b o ≡ true → o ≡ Some b
the_number b None e = absurd (cc)
the_number b (Some n) e = (let same : b ≡ n = grind (arith, e) in rw same refl)

make : ℕ → ℕ → ℕ → Job
make b f c = record { birth = b; file = f; copy = c }

-- two live jobs of one copy are one job
one_job : (site : Site) (h : History) (j k : Job) → is_live_job site h j ≡ true → is_live_job site h k ≡ true → k.file ≡ j.file → k.copy ≡ j.copy → same_job j k ≡ true
one_job site h j k mine its file copy =
    let a : live_birth site h j.file j.copy ≡ Some j.birth = the_number j.birth _ mine in
    let b : live_birth site h k.file k.copy ≡ Some k.birth = the_number k.birth _ its in
    let same : live_birth site h k.file k.copy ≡ live_birth site h j.file j.copy = ap (λ (f : ℕ). live_birth site h f k.copy) file ∙ ap (live_birth site h j.file) copy in
    let births : ◌≡◌ {A = Option ℕ} (Some j.birth) (Some k.birth) = sym a ∙ sym same ∙ b in
    let birth : j.birth ≡ k.birth = cc in
    grind (arith, birth, file, copy)

has_same : (j k : Job) (js : List Job) → same_job j k ≡ true → has_job k js ≡ true → has_job j js ≡ true
has_same j k js same there = (let e : j ≡ k = same_job_eq j k same in ap (λ (x : Job). has_job x js) e ∙ there)

no_more : (site : Site) (h : History) (f c : ℕ) (o : Option ℕ) → archive_birth site h f c ≡ o → is_some o ≡ true → is_failed site h f c ≡ false
no_more site h f c None is e = absurd (cc)
no_more site h f c (Some b) is e = by (not (was_flushed h f c))
  where
    by : (a : Bool) → (a && is_none (archive_birth site h f c)) ≡ false
    by true = ap is_none is
    by false = refl

-- the copy of a live archive job has not failed
not_failed : (site : Site) (h : History) (j : Job) → 1 ≤ j.copy → is_live_job site h j ≡ true → has_failed site h j.file j.copy ≡ false
not_failed site h j low live = by j.copy low live
  where
    ands : (a b c : Bool) → b ≡ false → (a && (b && c)) ≡ false
    ands true b c e = rw e refl
    ands false b c e = refl

    by : (c : ℕ) → 1 ≤ c → is_number j.birth (live_birth site h j.file c) ≡ true → has_failed site h j.file c ≡ false
    by zero low e = absurd (omega (arith, low))
    by (suc c) low e = ands (is_live h j.file) (is_failed site h j.file (suc c)) _ (no_more site h j.file (suc c) (Some j.birth) (the_number j.birth _ e) refl)

can_fail_all : (site : Site) (h : History) (copies js : List Job) → copies ≡ failed_jobs site h → names_twice js ≡ false → ((j : Job) → has_job j js ≡ true → (1 ≤ j.copy) × (is_live_job site h j ≡ true)) → CanFail copies js
can_fail_all site h copies [] is once each = tt
can_fail_all site h copies (j ∷ js) is once each =
    let p = parts_none (has_job j js) (names_twice js) once in
    let mine = each j (or_left (same_job j j) (has_job j js) (grind arith)) in (
      ap (has_copy j.file j.copy) is ∙ failed_has site h j.file j.copy ∙ not_failed site h j mine.0 mine.1,
      other p.0 mine.1 (λ k there. (each k (or_right (same_job k j) (has_job k js) there)).1) (bool_cases (has_copy j.file j.copy js)),
      can_fail_all site h copies js is p.1 (λ k there. each k (or_right (same_job k j) (has_job k js) there)),
    )
  where
    other : has_job j js ≡ false → is_live_job site h j ≡ true → ((k : Job) → has_job k js ≡ true → is_live_job site h k ≡ true) → (has_copy j.file j.copy js ≡ true) ⊎ (has_copy j.file j.copy js ≡ false) → has_copy j.file j.copy js ≡ false
    other lacks mine live (inr none) = none
    other lacks mine live (inl hit) =
        (let k = copy_there j.file j.copy js hit in
        let there : has_job j js ≡ true = has_same j k.0 js (one_job site h j k.0 mine (live k.0 k.1) k.2 k.3) k.1 in
        absurd (cc))

-- ---- what is known

-- a Failed of a mount that writes, and the parts before it
pub record IsWrite (site : Site) (h : History) (t m : ℕ) (fault : Fault) (charged returned ended : List Job) (x : Mount) (p : ArchiveParts) : Type 0 where
  pub failure : IsFailure site h t m fault charged returned
  pub valid : IsValidSite site
  pub good : IsWellFormed site
  pub kept : ArePartsKept site h p
  pub mount : mount_of h m ≡ Some x
  pub way : IsMountOf direction.Archive (mount_of h m)
  pub over : ended ≡ jobs_ended site.limits.tries (book_in p.book.value) charged

module _ (site : Site) (h : History) (t m : ℕ) (fault : Fault) (charged returned ended : List Job) (x : Mount) (p : ArchiveParts) (w : IsWrite site h t m fault charged returned ended x p) where
  pub writes_way : x.direction ≡ direction.Archive
  writes_way = subst (IsMountOf direction.Archive) w.mount w.way

  copy_from : (j : Job) → has_job j (charged ++ returned) ≡ true → 1 ≤ j.copy
  copy_from j there = archive_copy j.copy (named_way site h t m fault charged returned w.failure x w.mount j there ∙ writes_way)

  known : (j : Job) → has_job j (charged ++ returned) ≡ true → IsClaimable site h j
  known j there = named_claimable site h t m fault charged returned w.failure w.good.limits.tries_from j there

  pub charged_puts : AllByRecursion (λ (j : Job). is_put (entry_of h j.file) ≡ true) charged
  charged_puts = all_from (λ (j : Job). is_put (entry_of h j.file) ≡ true) charged (λ j there. (known j (in_front j charged returned there)).put)

  pub returned_puts : AllByRecursion (λ (j : Job). is_put (entry_of h j.file) ≡ true) returned
  returned_puts = all_from (λ (j : Job). is_put (entry_of h j.file) ≡ true) returned (λ j there. (known j (behind j charged returned there)).put)

  pub charged_copies : AllByRecursion (λ (j : Job). 1 ≤ j.copy) charged
  charged_copies = all_from (λ (j : Job). 1 ≤ j.copy) charged (λ j there. copy_from j (in_front j charged returned there))

  pub returned_copies : AllByRecursion (λ (j : Job). 1 ≤ j.copy) returned
  returned_copies = all_from (λ (j : Job). 1 ≤ j.copy) returned (λ j there. copy_from j (behind j charged returned there))

  pub charges_few : (j : Job) → has_job j charged ≡ true → length ((book_in p.book.value).charges j) + 1 < 2 ^ 8
  charges_few j there =
      let few : length (charges_of h j) + 1 ≤ site.limits.tries = (known j (in_front j charged returned there)).few in
      let top : site.limits.tries ≤ 16 = w.good.limits.tries_to in
      let same : length ((book_in p.book.value).charges j) ≡ length (charges_of h j) = ap length (w.kept.stand.jobs.book.charges j) in
      omega (arith, few, top, same)

  pub charged_once : names_twice charged ≡ false
  charged_once = first_once charged returned (once_all site h t m fault charged returned w.failure)

  pub ended_few : length ended ≤ length charged
  ended_few = subst (λ (js : List Job). length js ≤ length charged) (sym w.over) (filter_le (is_last_in site.limits.tries (book_in p.book.value)) charged)

  pub can_fail : CanFail p.failed.value ended
  can_fail =
      can_fail_all site h p.failed.value ended w.kept.stand.failed (ap names_twice w.over ∙ twice_filter (is_last_in site.limits.tries (book_in p.book.value)) charged charged_once)
      (λ j there. (let has = ended_has site h t m fault charged returned p.book.value w.failure w.kept.stand.jobs.book j (subst (λ (js : List Job). has_job j js ≡ true) w.over there) in
      (copy_from j (in_front j charged returned has.0), has.1)))

  pub tape_low : x.tape < length p.tapes.value.rows
  tape_low =
      let y : OpenIsGood site h m = open_good site h w.failure.legal m (opened site h t m fault charged returned w.failure) in
      let both : Some x ≡ Some y.0 = sym w.mount ∙ y.1 in
      let same : x ≡ y.0 = cc in
      let way : y.0.direction ≡ direction.Archive = ap (λ (z : Mount). z.direction) (sym same) ∙ writes_way in
      let low : y.0.tape < length site.tapes.items = y.2.1 way in
      let tape : x.tape ≡ y.0.tape = ap (λ (z : Mount). z.tape) same in
      let sized : length p.tapes.value.rows ≡ length site.tapes.items = w.kept.fit.tapes in
      omega (arith, low, tape, sized)

  -- ---- bytes

  pub sizes_fit : FilesFitBuffer → (size_of_jobs h charged < 2 ^ 64) × (size_of_jobs h returned < 2 ^ 64) × (size_of_jobs h charged + size_of_jobs h returned < 2 ^ 64)
  sizes_fit law =
      let few : length charged + length returned ≤ 2000000000 = few_jobs site h t m fault charged returned w.good w.failure in
      let a : size_of_jobs h charged ≤ 2147483648 * length charged = sizes_low h charged (small_files law site h w.good w.failure.legal) in
      let b : size_of_jobs h returned ≤ 2147483648 * length returned = sizes_low h returned (small_files law site h w.good w.failure.legal) in
      (omega (arith, few, a), omega (arith, few, b), omega (arith, few, a, b))

  -- ---- the book behind

  module _ (b : JobRows) (resolved : TellSame (book_in b) (end_jobs ended (charge_jobs charged (record { drive = x.drive; tape = x.tape; fault = fault }) (give_back_jobs (charged ++ returned) (book_in p.book.value))))) where
    pub book_stands : IsBook site (failed_entry h t m fault charged returned ∷ h) (book_in b)
    book_stands =
        book_behind site h t m fault charged returned ended (jobs_in (values_of p)) p.book.value b w.failure w.kept.stand.jobs w.over
        (subst (λ (d : ℕ). TellSame (book_in b) (end_jobs ended (charge_jobs charged (record { drive = d; tape = tape_by (mount_of h m); fault = fault }) (give_back_jobs (charged ++ returned) (book_in p.book.value))))) (sym (ap drive_by w.mount))
        (subst (λ (v : ℕ). TellSame (book_in b) (end_jobs ended (charge_jobs charged (record { drive = x.drive; tape = v; fault = fault }) (give_back_jobs (charged ++ returned) (book_in p.book.value))))) (sym (ap tape_by w.mount)) resolved))

    -- ---- queues

    waits_not : (j : Job) → has_job j (charged ++ returned) ≡ true → (k : ℕ) → has_job j (jobs_of (lines_in p.pools.value k)) ≡ false
    waits_not j there k = claimed_waits_not site h direction.Archive (lines_in p.pools.value) j m w.kept.stand.jobs.pools (claimer site h t m fault charged returned w.failure j there) k

    pub returned_queue : CanQueue site h (book_in b) (lines_in p.pools.value) returned
    returned_queue =
        can_queue site h b (lines_in p.pools.value) returned (last_once charged returned (once_all site h t m fault charged returned w.failure))
        (λ j there live. back_is site h t m fault charged returned (lines_in p.pools.value) b j w.good.limits.tries_from w.failure book_stands (behind j charged returned there) live (waits_not j (behind j charged returned there)))

    pub charged_queue : (mid : Lines) → ((k : ℕ) → mid k ≡ add_by (key_of site h) (line_of site h direction.Archive) (jobs_live (book_in b) returned) (lines_in p.pools.value) k) → CanQueue site h (book_in b) mid charged
    charged_queue mid added =
        can_queue site h b mid charged charged_once
        (λ j there live. back_is site h t m fault charged returned mid b j w.good.limits.tries_from w.failure book_stands (in_front j charged returned there) live
        (λ k. ap (λ (ls : List Line). has_job j (jobs_of ls)) (added k)
        ∙ lacks_by (key_of site h) (line_of site h direction.Archive) (λ i. refl) j (jobs_live (book_in b) returned) (lines_in p.pools.value) k
        (fewer j (λ i. lives i (book_in b)) returned (apart charged returned (once_all site h t m fault charged returned w.failure) j there)) (waits_not j (in_front j charged returned there) k)))

    small_now : LinesAreSmall → (k : ℕ) → AreSmall site (bytes_of (lines_in p.pools.value k))
    small_now law k = law site h direction.Archive (lines_in p.pools.value) w.valid w.failure.legal w.kept.stand.jobs.pools k

    pub returned_fits : LinesAreSmall → (k : ℕ) → bytes_of (lines_in p.pools.value k) + 2147483648 * length returned < 2 ^ 64
    returned_fits law k = room_in site (bytes_of (lines_in p.pools.value k)) (length returned) (length charged + length returned) (small_now law k) (omega arith) (few_jobs site h t m fault charged returned w.good w.failure)

    pub charged_fits : LinesAreSmall → FilesFitBuffer → (mid : Lines) → ((k : ℕ) → mid k ≡ add_by (key_of site h) (line_of site h direction.Archive) (jobs_live (book_in b) returned) (lines_in p.pools.value) k) → (k : ℕ) → bytes_of (mid k) + 2147483648 * length charged < 2 ^ 64
    charged_fits law files mid added k =
        let more : bytes_of (mid k) ≤ bytes_of (lines_in p.pools.value k) + 2147483648 * length (jobs_live (book_in b) returned) =
        subst (λ (ls : List Line). bytes_of ls ≤ bytes_of (lines_in p.pools.value k) + 2147483648 * length (jobs_live (book_in b) returned)) (sym (added k))
        (bytes_by (key_of site h) (line_of site h direction.Archive) (λ i. small_files files site h w.good w.failure.legal i.file) (jobs_live (book_in b) returned) (lines_in p.pools.value) k) in
        let less : length (jobs_live (book_in b) returned) ≤ length returned = filter_le (λ i. lives i (book_in b)) returned in
        room_left site (bytes_of (lines_in p.pools.value k)) (bytes_of (mid k)) (length charged) (length returned) (small_now law k) (omega (arith, more, less)) (few_jobs site h t m fault charged returned w.good w.failure)
