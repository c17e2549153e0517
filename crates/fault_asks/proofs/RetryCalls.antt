-- The calls for a Retry, made on all parts.
use Rattle.std.proofs.Common.{◌≡◌, ◌∙◌, ◌+◌, ◌≤◌, ℕ, zero, suc, List, [], ◌∷◌, Bool, true, false, ◌||◌, refl, sym, ap, subst, arith, length}
use Rattle.std.specs.Prelude.{◌==◌}
use Rattle.blob.specs.declared.sum.Sum256.{Sum256}
use Rattle.cta_site.specs.declared.site.Site.{Site}
use Rattle.cta_site.specs.Listed.{rows}
use Rattle.cta_model.specs.declared.asks.Direction.TheVariants as direction
use Rattle.cta_model.specs.declared.asks.Job.{Job}
use Rattle.cta_model.specs.declared.asks.Who.{Who}
use Rattle.cta_model.specs.Answers.{retried_jobs}
use Rattle.cta_model.specs.Files.{copies_of_file, is_live, live_file, path_of}
use Rattle.cta_model.specs.History.{History, has_number, is_number}
use Rattle.cta_model.specs.Legal.{IsLegal}
use Rattle.cta_model.specs.Mounts.{same_direction}
use Rattle.cta_model.specs.Queues.{direction_of, way_by}
use Rattle.cta_model.specs.Space.{is_safe}
use Rattle.cta_laws.proofs.Bools.{eq_flip}
use Rattle.cta_laws.proofs.Claims.{AllOf, all_mono}
use Rattle.cta_laws.proofs.JobFiles.{IsFailedCopy, retried_is, retry_failed}
use Rattle.cta_laws.proofs.PlaceLaw.{named_within, path_older}
use Rattle.cta_laws.proofs.Ranges.{all_map}
use Rattle.disk_buffer.specs.Stays.{content_in}
use Rattle.disk_buffer.specs.Stored.{Stored}
use Rattle.part_model.specs.Failed.{removed_copies}
use Rattle.part_model.specs.Held.{Held, HeldAgree, set_all, set_safe}
use Rattle.part_model.specs.JobBook.{TellSame, bear_jobs, subscribe_files}
use Rattle.part_model.specs.JobRows.{JobRows, book_in}
use Rattle.part_model.specs.Queues.{Queues, lines_in}
use Rattle.part_model.specs.Room.{Roomed}
use Rattle.part_model.specs.Tapes.{AreDistinct, Table, TablesAgree, safe_in}
use Rattle.part_laws.specs.QueueBooks.{IsBook, book_of}
use Rattle.part_laws.specs.Lines.{add_jobs, of_way}
use Rattle.part_laws.proofs.BookSteps.{tell_chain}
use Rattle.part_laws.proofs.RetryParts.{parts_retry}
use Rattle.part_laws.specs.Buffer.{is_file_of}
use Rattle.part_laws.specs.Tapes.{IsTable}
use Rattle.part_laws.proofs.Flags.{flag_is_found}
use Rattle.part_laws.proofs.TableMoves.{calls_move_table}
use Rattle.part_laws.specs.AllParts.{jobs_in}
use Rattle.archive_parts.specs.Called.{AreKeptCalled}
use Rattle.archive_parts.specs.PartsKept.{ArePartsKept, values_of}
use Rattle.archive_parts.specs.declared.parts.ArchiveParts.{ArchiveParts}
use Rattle.part_moves.specs.Flags.{job_files}
use Rattle.fault_asks.proofs.RetryFacts.{retry_entry}
use Rattle.part_moves.proofs.Marks.{flags_same}
use Rattle.fault_asks.proofs.EndedJobs.{files_are}
use Rattle.part_moves.proofs.SameParts.{same_table}

-- what the calls for a Retry have done
pub record IsSettled (site : Site) (h : History) (t n : ℕ) (who : Who) (ps : List (List ℕ)) (jobs : List Job) (p : ArchiveParts) (failed : Roomed (List Job)) (book : Roomed JobRows) (pools : Roomed Queues) (buffer : Stored) : Type 0 where
  pub legal : IsLegal site (retry_entry h t who ps jobs ∷ h)
  pub kept : ArePartsKept site h p
  pub number : n ≡ length h + 1
  pub taken : failed.value ≡ removed_copies jobs p.failed.value
  pub born : TellSame (book_in book.value) (bear_jobs jobs n (book_in p.book.value))
  pub lines : (k : ℕ) → lines_in pools.value k ≡ add_jobs site (retry_entry h t who ps jobs ∷ h) direction.Archive jobs (lines_in p.pools.value) k
  pub keys : length pools.value ≡ length p.pools.value
  pub flags : HeldAgree buffer.held.value (set_all (λ f. safe_in p.tapes.value (book_in book.value).archive f (copies_of_file site (retry_entry h t who ps jobs ∷ h) f)) (job_files jobs) p.buffer.held.value)
  pub contents : buffer.contents ≡ p.buffer.contents

-- ---- the way of archive jobs

archive_way : (c : ℕ) → 1 ≤ c → way_by c ≡ direction.Archive
archive_way zero low = absurd (omega arith)
archive_way (suc c) low = refl

all_written : (js : List Job) → AllOf (λ (j : Job). 1 ≤ j.copy) js → of_way direction.Archive js ≡ js
all_written [] all = refl
all_written (j ∷ js) all =
    let test : same_direction direction.Archive (direction_of j) ≡ true = ap (same_direction direction.Archive) (archive_way j.copy all.0) in
    rw test (ap (λ (xs : List Job). j ∷ xs) (all_written js all.1))

none_read : (js : List Job) → AllOf (λ (j : Job). 1 ≤ j.copy) js → of_way direction.Retrieve js ≡ []
none_read [] all = refl
none_read (j ∷ js) all =
    let test : same_direction direction.Retrieve (direction_of j) ≡ false = ap (same_direction direction.Retrieve) (archive_way j.copy all.0) in
    rw test (none_read js all.1)

-- ---- flags

module _ (site : Site) (h : History) (t n : ℕ) (who : Who) (ps : List (List ℕ)) (jobs : List Job) (p : ArchiveParts) (failed : Roomed (List Job)) (book : Roomed JobRows) (pools : Roomed Queues) (buffer : Stored) (s : IsSettled site h t n who ps jobs p failed book pools buffer) where
  are : jobs ≡ retried_jobs site h [] ps
  are = retried_is _ _ (retried_jobs site h [] ps) (rows jobs) s.legal.1.answered

  failed_all : AllOf (IsFailedCopy site h) jobs
  failed_all = subst (AllOf (IsFailedCopy site h)) (sym are) (retry_failed site h [] ps)

  archives : AllOf (λ (j : Job). 1 ≤ j.copy) jobs
  archives = all_mono (IsFailedCopy site h) (λ (j : Job). 1 ≤ j.copy) jobs (λ j f. f.2) failed_all

  next : n ≡ length (retry_entry h t who ps jobs ∷ h)
  next = (let e = s.number in omega (arith, e))

  book_called : TellSame (book_in book.value) (bear_jobs jobs (length (retry_entry h t who ps jobs ∷ h)) (subscribe_files [] (length (retry_entry h t who ps jobs ∷ h)) (book_in p.book.value)))
  book_called = subst (λ (m : ℕ). TellSame (book_in book.value) (bear_jobs jobs m (book_in p.book.value))) next s.born

  book_stands : IsBook site (retry_entry h t who ps jobs ∷ h) (book_in book.value)
  book_stands =
      tell_chain (book_in book.value) (bear_jobs jobs (length (retry_entry h t who ps jobs ∷ h)) (subscribe_files [] (length (retry_entry h t who ps jobs ∷ h)) (book_in p.book.value))) (book_of site (retry_entry h t who ps jobs ∷ h)) book_called
      (parts_retry site h (retry_entry h t who ps jobs) who (rows ps) (rows jobs) (jobs_in (values_of p)) s.legal refl refl s.kept.stand.jobs).book

  table_stands : IsTable site (retry_entry h t who ps jobs ∷ h) p.tapes.value
  table_stands = calls_move_table site h (retry_entry h t who ps jobs) p.tapes.value p.tapes.value s.legal s.kept.stand.space.tapes (same_table p.tapes.value s.kept.stand.space.tapes.distinct)

  flag_is : (j : Job) → IsFailedCopy site h j → safe_in p.tapes.value (book_in book.value).archive j.file (copies_of_file site (retry_entry h t who ps jobs ∷ h) j.file) ≡ is_safe site (retry_entry h t who ps jobs ∷ h) j.file
  flag_is j f =
      let low : j.file ≤ length h = (named_within h j.file (path_of h j.file) f.0).1 in
      let live : is_live (retry_entry h t who ps jobs ∷ h) j.file ≡ true = ap (λ (q : List ℕ). is_number j.file (live_file h q)) (path_older (retry_entry h t who ps jobs) h j.file low) ∙ f.0 in
      sym (flag_is_found site (retry_entry h t who ps jobs ∷ h) p.tapes.value (book_in book.value).archive j.file s.legal table_stands live (λ c. book_stands.archive j.file c))

  flags_set : HeldAgree buffer.held.value (set_all (is_safe site (retry_entry h t who ps jobs ∷ h)) (job_files jobs) p.buffer.held.value)
  flags_set =
      subst (λ (v : Held). HeldAgree buffer.held.value v)
      (flags_same (λ f. safe_in p.tapes.value (book_in book.value).archive f (copies_of_file site (retry_entry h t who ps jobs ∷ h) f)) (is_safe site (retry_entry h t who ps jobs ∷ h)) (job_files jobs) p.buffer.held.value
      (all_map (λ f. safe_in p.tapes.value (book_in book.value).archive f (copies_of_file site (retry_entry h t who ps jobs ∷ h) f) ≡ is_safe site (retry_entry h t who ps jobs ∷ h) f) (λ (j : Job). j.file) jobs
      (all_mono (IsFailedCopy site h) (λ (j : Job). safe_in p.tapes.value (book_in book.value).archive j.file (copies_of_file site (retry_entry h t who ps jobs ∷ h) j.file) ≡ is_safe site (retry_entry h t who ps jobs ∷ h) j.file) jobs flag_is failed_all)))
      s.flags

  -- the calls are made
  pub retry_called : AreKeptCalled site h (retry_entry h t who ps jobs) p (record p { buffer = buffer; book = book; pools = pools; failed = failed })
  retry_called = record {
    parts = record {
      space = record {
        names = λ path. refl;
        tapes = same_table p.tapes.value s.kept.stand.space.tapes.distinct;
        buffer = (job_files jobs, (λ f. files_are f jobs), flags_set);
        requests = λ id. refl;
        repacks = λ id. refl;
      };
      jobs = record {
        book = book_called;
        pools = λ k. s.lines k ∙ ap (λ (js : List Job). add_jobs site (retry_entry h t who ps jobs ∷ h) direction.Archive js (lines_in p.pools.value) k) (sym (all_written jobs archives));
        recalls = λ k. sym (ap (λ (js : List Job). add_jobs site (retry_entry h t who ps jobs ∷ h) direction.Retrieve js (lines_in p.recalls.value) k) (none_read jobs archives));
        counts = λ way vo. refl;
      };
      mounts = refl;
      downs = λ d. refl;
      failed = s.taken;
    };
    contents = λ f. ap (λ (xs : List (ℕ × Sum256)). content_in xs f) s.contents;
    fit = record { tapes = s.kept.fit.tapes; pools = s.keys ∙ s.kept.fit.pools; recalls = s.kept.fit.recalls; vos = s.kept.fit.vos; drives = s.kept.fit.drives };
    named = λ id. refl;
  }
