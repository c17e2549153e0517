-- What the calls for a Failed of a mount that reads may count on.
use Rattle.std.proofs.Common.{◌≡◌, ◌∙◌, ◌+◌, ◌*◌, ◌^◌, ◌<◌, ◌≤◌, ℕ, List, ◌∷◌, ◌++◌, length, Bool, true, false, refl, sym, ap, subst, arith}
use Rattle.std.specs.Prelude.{Option, Some, None, if◌then◌else◌, slice_get}
use Rattle.std.specs.List.{AllByRecursion}
use Rattle.cta_site.specs.declared.site.Site.{Site}
use Rattle.cta_site.specs.Laws.{ClassesAreKnown}
use Rattle.cta_site.specs.Lookups.{class_of, copies_of, copies_of_class}
use Rattle.cta_site.specs.WellFormed.{IsWellFormed}
use Rattle.cta_model.specs.declared.states.Place.{Place}
use Rattle.cta_model.specs.Files.{path_of}
use Rattle.cta_model.specs.Mounts.{is_mount, same_direction}
use Rattle.cta_model.specs.Space.{bytes_to_read}
use Rattle.cta_laws.specs.Claims.{claimed_total, reads}
use Rattle.cta_laws.specs.Jobs.{ClaimedBytesMove}
use Rattle.cta_laws.specs.Places.{PlacesAreOnSite}
use Rattle.cta_laws.proofs.JobFiles.{recall_copy}
use Rattle.tape_table.specs.Sources.{sources_in}
use Rattle.fault_asks.specs.Reading.{source_in}
use Rattle.fault_asks.proofs.FailFacts.{longer, sizes_both}
use Rattle.part_moves.proofs.Sources.{source_placed}
use Rattle.cta_site.specs.ValidSite.{IsValidSite}
use Rattle.cta_model.specs.declared.asks.Direction.{Direction}
use Rattle.cta_model.specs.declared.asks.Direction.TheVariants as direction
use Rattle.cta_model.specs.declared.asks.Fault.{Fault}
use Rattle.cta_model.specs.declared.asks.Job.{Job}
use Rattle.cta_model.specs.declared.states.Mount.{Mount}
use Rattle.cta_model.specs.Charges.{charges_of}
use Rattle.cta_model.specs.History.{History, entry_of}
use Rattle.cta_model.specs.Mounts.{drive_by, has_job, mount_of, tape_by}
use Rattle.cta_model.specs.Queues.{direction_of}
use Rattle.cta_model.specs.Answers.{names_twice}
use Rattle.cta_model.specs.Legal.{IsMountOf}
use Rattle.cta_model.specs.Files.{copies_of_file}
use Rattle.cta_laws.specs.Claims.{size_of_jobs}
use Rattle.cta_laws.proofs.JobLists.{filter_le}
use Rattle.job_book.specs.Live.{lives}
use Rattle.job_queues.specs.Waiting.{bytes_of, jobs_of}
use Rattle.kept_history.specs.Puts.{is_put}
use Rattle.part_model.specs.declared.jobs.Line.{Line}
use Rattle.part_model.specs.JobBook.{TellSame, charge_jobs, end_jobs, give_back_jobs}
use Rattle.part_model.specs.JobRows.{JobRows, book_in}
use Rattle.part_model.specs.Queues.{Lines, lines_in}
use Rattle.part_laws.specs.QueueBooks.{IsBook}
use Rattle.part_laws.specs.Lines.{line_of}
use Rattle.part_laws.specs.Laws.{AreSmall, FilesFitBuffer, LinesAreSmall}
use Rattle.part_laws.specs.AllParts.{jobs_in}
use Rattle.archive_parts.specs.PartsKept.{ArePartsKept, values_of}
use Rattle.archive_parts.specs.declared.parts.ArchiveParts.{ArchiveParts}
use Rattle.fault_asks.specs.Failing.{CanQueue, add_by, jobs_ended, jobs_live}
use Rattle.fault_asks.proofs.BackLists.{bytes_by, fewer, lacks_by}
use Rattle.fault_asks.proofs.Claimed.{IsClaimable, in_front}
use Rattle.fault_asks.proofs.EndedJobs.{book_behind, charge_by}
use Rattle.fault_asks.proofs.FailFacts.{IsFailure, all_from, apart, back_is, behind, can_queue, claimed_waits_not, claimer, failed_entry, few_jobs, first_once, last_once, named_claimable, named_way, once_all, room_in, room_left, sizes_low, small_files}
use Rattle.part_moves.proofs.Charged.{few_copies, is_asked_for}

-- a Failed of a mount that reads, and the parts before it
pub record IsRead (site : Site) (h : History) (t m : ℕ) (fault : Fault) (charged returned ended : List Job) (x : Mount) (p : ArchiveParts) : Type 0 where
  pub failure : IsFailure site h t m fault charged returned
  pub valid : IsValidSite site
  pub good : IsWellFormed site
  pub classes : ClassesAreKnown site
  pub kept : ArePartsKept site h p
  pub mount : mount_of h m ≡ Some x
  pub way : IsMountOf direction.Retrieve (mount_of h m)
  pub over : ended ≡ jobs_ended site.limits.tries (book_in p.book.value) charged

module _ (site : Site) (h : History) (t m : ℕ) (fault : Fault) (charged returned ended : List Job) (x : Mount) (p : ArchiveParts) (w : IsRead site h t m fault charged returned ended x p) where
  pub reads_way : x.direction ≡ direction.Retrieve
  reads_way = subst (IsMountOf direction.Retrieve) w.mount w.way

  pub job_way : (j : Job) → has_job j (charged ++ returned) ≡ true → direction_of j ≡ direction.Retrieve
  job_way j there = named_way site h t m fault charged returned w.failure x w.mount j there ∙ reads_way

  pub copy_zero : (j : Job) → has_job j (charged ++ returned) ≡ true → j.copy ≡ 0
  copy_zero j there = recall_copy j.copy (job_way j there)

  pub known_job : (j : Job) → has_job j (charged ++ returned) ≡ true → IsClaimable site h j
  known_job j there = named_claimable site h t m fault charged returned w.failure w.good.limits.tries_from j there

  pub charged_puts : AllByRecursion (λ (j : Job). is_put (entry_of h j.file) ≡ true) charged
  charged_puts = all_from (λ (j : Job). is_put (entry_of h j.file) ≡ true) charged (λ j there. (known_job j (in_front j charged returned there)).put)

  pub returned_puts : AllByRecursion (λ (j : Job). is_put (entry_of h j.file) ≡ true) returned
  returned_puts = all_from (λ (j : Job). is_put (entry_of h j.file) ≡ true) returned (λ j there. (known_job j (behind j charged returned there)).put)

  pub charges_few : (j : Job) → has_job j charged ≡ true → length ((book_in p.book.value).charges j) + 1 < 2 ^ 8
  charges_few j there =
      let few : length (charges_of h j) + 1 ≤ site.limits.tries = (known_job j (in_front j charged returned there)).few in
      let top : site.limits.tries ≤ 16 = w.good.limits.tries_to in
      let same : length ((book_in p.book.value).charges j) ≡ length (charges_of h j) = ap length (w.kept.stand.jobs.book.charges j) in
      omega (arith, few, top, same)

  pub charged_once : names_twice charged ≡ false
  charged_once = first_once charged returned (once_all site h t m fault charged returned w.failure)

  -- ---- bytes

  pub sizes_fit : FilesFitBuffer → (size_of_jobs h charged < 2 ^ 64) × (size_of_jobs h returned < 2 ^ 64) × (size_of_jobs h charged + size_of_jobs h returned < 2 ^ 64)
  sizes_fit law =
      let few : length charged + length returned ≤ 2000000000 = few_jobs site h t m fault charged returned w.good w.failure in
      let a : size_of_jobs h charged ≤ 2147483648 * length charged = sizes_low h charged (small_files law site h w.good w.failure.legal) in
      let b : size_of_jobs h returned ≤ 2147483648 * length returned = sizes_low h returned (small_files law site h w.good w.failure.legal) in
      (omega (arith, few, a), omega (arith, few, b), omega (arith, few, a, b))

  sums : (now out was size : ℕ) (b : Bool) → now + (if b then out else 0) ≡ was + (if b then 0 else 0) → b ≡ true → out ≡ size → size ≤ was
  sums now out was size true moved on one = omega (arith, moved, one)
  sums now out was size false moved on one = absurd (cc)

  -- the bytes of the files are set aside
  pub aside_has : ClaimedBytesMove → size_of_jobs h charged + size_of_jobs h returned ≤ p.buffer.held.value.aside
  aside_has law =
      let moved = law reads site h (failed_entry h t m fault charged returned) (longer site h t m fault charged returned w.failure) in
      let asked : is_mount reads (mount_of h m) ≡ true = is_asked_for (mount_of h m) w.way in
      let low : size_of_jobs h charged + size_of_jobs h returned ≤ bytes_to_read h =
      sums (claimed_total reads (failed_entry h t m fault charged returned ∷ h)) (size_of_jobs h (charged ++ returned)) (claimed_total reads h) (size_of_jobs h charged + size_of_jobs h returned) (is_mount reads (mount_of h m)) moved asked (sizes_both h charged returned) in
      let aside : p.buffer.held.value.aside ≡ bytes_to_read h = w.kept.stand.space.buffer.aside in
      omega (arith, low, aside)

  -- ---- tapes

  pub keys_low : PlacesAreOnSite → (f n : ℕ) (q : Place) → slice_get (sources_in p.tapes.value f) n ≡ Some q → q.tape < length p.recalls.value
  keys_low law f n q at =
      let c = source_placed p.tapes.value f n q at in
      let low : q.tape < length site.tapes.items = law site h w.failure.legal f c.0 q (sym (w.kept.stand.space.tapes.places f c.0) ∙ c.1) in
      let sized : length p.recalls.value ≡ length site.tapes.items = w.kept.fit.recalls in
      omega (arith, low, sized)

  -- ---- the book behind

  module _ (b : JobRows) (resolved : TellSame (book_in b) (end_jobs ended (charge_jobs charged (record { drive = x.drive; tape = x.tape; fault = fault }) (give_back_jobs (charged ++ returned) (book_in p.book.value))))) where
    pub resolved_by : TellSame (book_in b) (end_jobs ended (charge_jobs charged (charge_by h m fault) (give_back_jobs (charged ++ returned) (book_in p.book.value))))
    resolved_by =
        subst (λ (d : ℕ). TellSame (book_in b) (end_jobs ended (charge_jobs charged (record { drive = d; tape = tape_by (mount_of h m); fault = fault }) (give_back_jobs (charged ++ returned) (book_in p.book.value))))) (sym (ap drive_by w.mount))
        (subst (λ (v : ℕ). TellSame (book_in b) (end_jobs ended (charge_jobs charged (record { drive = x.drive; tape = v; fault = fault }) (give_back_jobs (charged ++ returned) (book_in p.book.value))))) (sym (ap tape_by w.mount)) resolved)

    pub book_stands : IsBook site (failed_entry h t m fault charged returned ∷ h) (book_in b)
    book_stands = book_behind site h t m fault charged returned ended (jobs_in (values_of p)) p.book.value b w.failure w.kept.stand.jobs w.over resolved_by

    -- ---- queues

    waits_not : (j : Job) → has_job j (charged ++ returned) ≡ true → (k : ℕ) → has_job j (jobs_of (lines_in p.recalls.value k)) ≡ false
    waits_not j there k = claimed_waits_not site h direction.Retrieve (lines_in p.recalls.value) j m w.kept.stand.jobs.recalls (claimer site h t m fault charged returned w.failure j there) k

    pub returned_queue : CanQueue site h (book_in b) (lines_in p.recalls.value) returned
    returned_queue =
        can_queue site h b (lines_in p.recalls.value) returned (last_once charged returned (once_all site h t m fault charged returned w.failure))
        (λ j there live. back_is site h t m fault charged returned (lines_in p.recalls.value) b j w.good.limits.tries_from w.failure book_stands (behind j charged returned there) live (waits_not j (behind j charged returned there)))

    pub charged_queue : (mid : Lines) → ((k : ℕ) → mid k ≡ add_by (source_in p.tapes.value (book_in b)) (line_of site h direction.Retrieve) (jobs_live (book_in b) returned) (lines_in p.recalls.value) k) → CanQueue site h (book_in b) mid charged
    charged_queue mid added =
        can_queue site h b mid charged charged_once
        (λ j there live. back_is site h t m fault charged returned mid b j w.good.limits.tries_from w.failure book_stands (in_front j charged returned there) live
        (λ k. ap (λ (ls : List Line). has_job j (jobs_of ls)) (added k)
        ∙ lacks_by (source_in p.tapes.value (book_in b)) (line_of site h direction.Retrieve) (λ i. refl) j (jobs_live (book_in b) returned) (lines_in p.recalls.value) k
        (fewer j (λ i. lives i (book_in b)) returned (apart charged returned (once_all site h t m fault charged returned w.failure) j there)) (waits_not j (in_front j charged returned there) k)))

    small_now : LinesAreSmall → (k : ℕ) → AreSmall site (bytes_of (lines_in p.recalls.value k))
    small_now law k = law site h direction.Retrieve (lines_in p.recalls.value) w.valid w.failure.legal w.kept.stand.jobs.recalls k

    pub returned_fits : LinesAreSmall → (k : ℕ) → bytes_of (lines_in p.recalls.value k) + 2147483648 * length returned < 2 ^ 64
    returned_fits law k = room_in site (bytes_of (lines_in p.recalls.value k)) (length returned) (length charged + length returned) (small_now law k) (omega arith) (few_jobs site h t m fault charged returned w.good w.failure)

    pub charged_fits : LinesAreSmall → FilesFitBuffer → (mid : Lines) → ((k : ℕ) → mid k ≡ add_by (source_in p.tapes.value (book_in b)) (line_of site h direction.Retrieve) (jobs_live (book_in b) returned) (lines_in p.recalls.value) k) → (k : ℕ) → bytes_of (mid k) + 2147483648 * length charged < 2 ^ 64
    charged_fits law files mid added k =
        let more : bytes_of (mid k) ≤ bytes_of (lines_in p.recalls.value k) + 2147483648 * length (jobs_live (book_in b) returned) =
        subst (λ (ls : List Line). bytes_of ls ≤ bytes_of (lines_in p.recalls.value k) + 2147483648 * length (jobs_live (book_in b) returned)) (sym (added k))
        (bytes_by (source_in p.tapes.value (book_in b)) (line_of site h direction.Retrieve) (λ i. small_files files site h w.good w.failure.legal i.file) (jobs_live (book_in b) returned) (lines_in p.recalls.value) k) in
        let less : length (jobs_live (book_in b) returned) ≤ length returned = filter_le (λ i. lives i (book_in b)) returned in
        room_left site (bytes_of (lines_in p.recalls.value k)) (bytes_of (mid k)) (length charged) (length returned) (small_now law k) (omega (arith, more, less)) (few_jobs site h t m fault charged returned w.good w.failure)
